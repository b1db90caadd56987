-- what a function returns, and what it leaves in `figures`
pub mod Numbers
