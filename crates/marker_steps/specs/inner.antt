-- what each step makes of the arrays
pub mod Steps
