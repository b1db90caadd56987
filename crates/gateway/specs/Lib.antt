-- what a function leaves in `figures`, and a line in its lists
pub mod Figures
-- a version, a pattern, a specifier by itself
pub mod Texts
