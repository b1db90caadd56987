-- what the door makes of what it has found
pub mod Found
