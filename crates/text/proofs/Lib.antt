pub mod Cases
pub mod Laws
pub mod Places
pub mod Reach
pub mod Words
