pub mod Examples
pub mod Laws
pub mod Own
pub mod Plain
pub mod Within
