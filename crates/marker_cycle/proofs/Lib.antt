-- what a tree does to the counts
pub mod Emit
-- a chain of items, for any item
pub mod Chain
-- items, groups and the two chains
pub mod Items
-- what the arrays hold after a tree
pub mod Held
-- the whole marker
pub mod Whole
