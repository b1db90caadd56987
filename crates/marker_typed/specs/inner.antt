-- how the lists are made from the arrays of numbers
pub mod Gather
