-- In document 01's order, "Markers".
-- what is read from a place on: chains, groups and comparisons, and where the first fault is
pub mod Grammar
-- what is read of it all: the comparisons that are kept, the warnings, the program
pub mod Marking
-- what only the reader's own functions are stated by
pub mod inner
