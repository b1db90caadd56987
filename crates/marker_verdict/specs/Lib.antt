-- what two values and an operator come to: what a kept comparison holds, mirroring, and the five kinds of warning
pub mod Verdict
-- one comparison at a place: value, operator, value, and its span
pub mod Found
