pub mod Markers
pub mod Quick
pub mod Together
