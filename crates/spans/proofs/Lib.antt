pub mod Arrays
pub mod Doors
pub mod Kept
pub mod Own
pub mod Within
