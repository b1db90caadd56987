-- what the typed door answers
pub mod Requirement
-- what only the door's own functions are stated by
pub mod inner
