-- how many numbers a comparison and a warning have, and the room for them
pub mod Room
-- what those numbers are, and where they stand
pub mod Numbers
-- what was read so far, and what one more makes of it
pub mod Sheet
