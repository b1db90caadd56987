pub mod Operators
pub mod Tables
pub mod Values
