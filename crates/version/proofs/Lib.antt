-- The laws by which the functions of this crate are proved, and the worked examples.
pub mod Layouts
pub mod Specifiers
pub mod Lists
pub mod Examples
