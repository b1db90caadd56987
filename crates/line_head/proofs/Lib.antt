pub mod Counts
pub mod Examples
pub mod Laws
pub mod Own
pub mod Within
