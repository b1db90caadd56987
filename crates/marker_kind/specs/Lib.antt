-- the numbers of a sort, a key, an operator, and back
pub mod Code
