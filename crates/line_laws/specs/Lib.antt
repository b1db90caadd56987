-- what a line says under an assignment
pub mod Value
