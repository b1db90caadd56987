-- In document 01's order, "The program and its stack rules".
-- what each byte of a program is
pub mod Word
-- what a program that passes keeps to: 1 to 127 words, at most 35 values
pub mod Rules
-- what the check answers: 31, then 30 at the first word at fault
pub mod Check
-- the tree of a program, and what it says
pub mod Tree
-- what only the check's own functions are stated by
pub mod inner
