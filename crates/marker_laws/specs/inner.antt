-- the grammar with any bound on the joints of a chain
pub mod Fuel
