-- "Operators are `<= < != == >= > ~= ===`.", and what may go with each.
pub mod Operator
