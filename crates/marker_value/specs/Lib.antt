-- the first word of a table that a span is
pub mod Table
-- a value, quoted or one of the twelve names: refusals 18, 19 and 22
pub mod Value
-- the operator between two values: refusals 20 to 23
pub mod Operator
