-- what stands at a place inside the brackets
pub mod Extra
-- the extras at a place of a line
pub mod Extras
