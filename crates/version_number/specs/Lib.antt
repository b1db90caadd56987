-- "Each number .. is at most 18,446,744,073,709,551,615, else the text is no version."
pub mod Number
-- the place behind a part, as the contracts give it
pub mod Place
