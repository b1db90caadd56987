-- what the reading, and the check that comes first, make of an answer
pub mod Doors
-- for the quick door
mod Quickly
