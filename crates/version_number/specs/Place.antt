-- Where a part ends, from how long it is.
use Rattle.std.specs.Prelude.{ℕ, ◌+◌, List, drop}

-- the place behind the part that stands at a place
abbrev pub past : (List ℕ → ℕ) → List ℕ → ℕ → ℕ
past len s at = at + len (drop at s)
