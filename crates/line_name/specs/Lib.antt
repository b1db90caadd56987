-- the name at a line's start
pub mod Name
