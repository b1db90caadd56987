-- the parts of a line before its marker
pub mod Head
