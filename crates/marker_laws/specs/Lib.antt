-- what a marker says under an assignment
pub mod Value
-- what only a theorem on the definitions themselves is stated by
pub mod inner
