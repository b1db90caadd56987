-- the bytes that wait to be written out
pub mod Gathered
-- what number digits spell
pub mod Digits
