-- The laws of a number's value and of the loop that reads one.
pub mod Numbers
