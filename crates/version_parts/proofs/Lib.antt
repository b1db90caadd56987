-- The laws by which the functions of this crate are proved, and which crates above may cite.
pub mod Parts
pub mod Joins
pub mod Releases
pub mod Locals
