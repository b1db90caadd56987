pub mod Examples
pub mod Further
pub mod Mirror
