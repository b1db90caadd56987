-- the URL at a place of a line
pub mod Url
