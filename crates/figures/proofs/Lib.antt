-- the laws of answers as numbers
pub mod Laws
-- no refusal is told as 0
pub mod Zero
