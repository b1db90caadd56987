pub mod Examples
pub mod Forest
pub mod Meaning
pub mod Numbers
pub mod Place
pub mod Steady
