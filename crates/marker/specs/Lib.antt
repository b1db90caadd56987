-- what the marker entry answers, and what it has read then
pub mod Answer
