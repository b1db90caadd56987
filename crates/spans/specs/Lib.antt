-- a list of spans in an array
pub mod Flat
-- a list of spans as it is read, item by item
pub mod Listing
