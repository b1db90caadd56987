-- In document 01's order.
-- an assignment's bits, and what the runner answers: the check's refusal, or what the tree says
pub mod Run
-- running as a machine of 35 slots, in which "lacks neither value nor slot" is stated
pub mod Machine
-- what only the runner's own functions are stated by
pub mod inner
