-- the normal form of a name, and its first bad byte
pub mod Normal
-- the normaliser's answer, and what it leaves in the output: refusals 28 and 29
pub mod Normalise
