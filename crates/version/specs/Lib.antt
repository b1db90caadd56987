-- where the parts of a version stand: "Outer whitespace; optional `v`; optional number and `!`; .."
pub mod Layout
-- what a text is read as: the parts' values
pub mod Reading
-- "A pattern is a version, or ..", what goes with an operator, specifiers, lists
pub mod Rules
