-- what is loaded from the arrays
mod Gathers
