-- an accepted marker's program passes the check, and says what its tree says
pub mod Meaning
-- its comparisons are numbered from 0 as read
pub mod Numbered
-- the bound on the joints of a chain never shows
pub mod Fuel
