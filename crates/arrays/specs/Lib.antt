-- a list over the front of an array, and in an array of its own
pub mod Front
