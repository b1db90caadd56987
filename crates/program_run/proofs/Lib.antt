pub mod Alike
pub mod Bits
pub mod Examples
pub mod Own
pub mod Passing
pub mod RanAnswers
pub mod Runs
