-- "a version, pattern or specifier alone 1, 2, then 14 over all of it"
pub mod Entry
