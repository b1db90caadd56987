-- no two comparisons, and no two warnings, have the same numbers
pub mod Own
-- arrays that hold the numbers of a list, and what is loaded from them
pub mod Held
