-- What is proved of versions beside the contracts. The reading accepts exactly what the Appendix's expression matches: `accepted-matches`,
-- `matches-accepted`, and the same two of patterns.
pub mod Sound
pub mod Complete
-- by these
pub mod Parts
pub mod Matching
pub mod Bytes
pub mod Whole
pub mod Words
pub mod Front
pub mod Greedy
pub mod Release
-- each part's place holds that part, and what is read there is what it says: `layout-holds`, `reading-says`
pub mod Places
pub mod Readings
pub mod Values
-- a number's digits say it: `value-snoc`, `digits_value`
pub mod Decimal
-- `~=`'s two numbers are two that are read: `two-numbers`
pub mod TwoNumbers
-- a local part and a `+`: `local-sign`
pub mod LocalSign
-- a specifier is some cut: `specifier-cut`, `cut-specifier`
pub mod Specifier
