-- one text of a list of specifiers
pub mod Specifier
-- the specifiers at a place of a line
pub mod Specifiers
