-- The rules by which the entries are proved.
pub mod Entries
