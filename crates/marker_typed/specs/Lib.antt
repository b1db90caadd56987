-- the typed lists
pub mod Lists
-- what only the door's own functions are stated by
pub mod inner
