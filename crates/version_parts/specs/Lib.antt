-- Document 01, "Versions", part by part: how many bytes a part takes in front of a text.
-- "optional `v`; optional number and `!`"
pub mod Release
-- "numbers joined by `.`", and local segments by their separators
pub mod Joined
-- "optional pre part .., post part .. and dev part, with the Appendix's separators and optional numbers"
pub mod Part
-- "optional `+` local part"
pub mod Local
