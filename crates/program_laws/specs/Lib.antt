-- what the check's answers say, and where 30 stands
pub mod Place
