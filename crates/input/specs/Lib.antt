-- what is still to come of what is read, and what a line takes of it
pub mod Coming
