-- the extras entry, by its two doors
pub mod Entry
