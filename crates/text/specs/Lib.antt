-- the byte classes
pub mod Class
-- how far a run of one class goes, and the byte at a place
pub mod Scan
-- a fixed byte string against a part of a line
pub mod Word
