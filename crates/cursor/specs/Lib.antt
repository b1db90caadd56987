-- what the moves of a cursor answer
pub mod Cursor
-- the limits of what is read
pub mod Limits
-- refusals 1 and 2, which come first
pub mod Check
