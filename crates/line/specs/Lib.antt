-- In document 01's order, "A line".
-- what a line is read as: its parts before the marker, and its marker
pub mod Line
-- how the quick door answers it, and what the lent arrays hold afterwards
pub mod Figures
-- what only the door's own functions are stated by
pub mod inner
