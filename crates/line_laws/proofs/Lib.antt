pub mod Accepted
pub mod Own
pub mod Program
