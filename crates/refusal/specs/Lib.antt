-- what an entry answers, and what is made of answers
pub mod Answer
-- the numbers of refusals, spans
pub mod Refusal
