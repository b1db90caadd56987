pub mod Checks
pub mod Laws
pub mod Own
pub mod Passed
mod Runs
