-- What is still to come of what is read, where that is known, and what a line takes of it.
use Rattle.std.specs.Prelude.{ℕ, ◌-◌, ◌<◌, ◌≡◌, ◌≢◌, List, [], ◌∷◌, length, take, drop, slice_index, All, Option, Some, None, Result, Ok, Err, ⊤}
use Rattle.std.specs.Io.KnownBytes.{Consumes, Keeps, IsAtEnd, prepend_known}
use Rattle.input.specs.declared.Feed.{Feed}
use Rattle.input.specs.declared.Ended.{Ended}
use Rattle.input.specs.declared.Ended.TheVariants.{ByLineFeed, ByEnd, ByFault}

-- the bytes that were fetched and not taken
abbrev pub waiting : Feed → List ℕ → List ℕ
waiting feed buf = drop feed.at (take feed.end buf)

-- those, and then what the reader has left
abbrev pub coming : Feed → List ℕ → Option (List ℕ) → Option (List ℕ)
coming feed buf left = prepend_known (waiting feed buf) left

-- what stands behind a line's bytes
abbrev pub mark : Ended → List ℕ
mark ByLineFeed = 10 ∷ []
mark ByEnd = []
mark (ByFault why) = []

-- a line has these bytes, and so many at the front of them are held
pub record IsLine (len held last : ℕ) (front text : List ℕ) : Type 0 where
  pub counted : length text ≡ len
  pub one : All (λ b. b ≢ 10) text
  pub kept : take held front ≡ take held text
  pub ending : last ≡ slice_index text (len - 1)

-- the end is told where nothing is left, but for a line of more bytes than can be counted
abbrev pub IsTrueEnd : Ended → ℕ → Option (List ℕ) → Type 0
IsTrueEnd ByLineFeed len left = ⊤
IsTrueEnd ByEnd len left = len < 18446744073709551615 → IsAtEnd left
IsTrueEnd (ByFault why) len left = ⊤

-- one byte is taken, or none: at the end, or since a read failed
abbrev pub IsNext : {E : Type 0} → Result (Option (ℕ × Feed)) E → Option (List ℕ) → Feed → List ℕ → Option (List ℕ) → Type 0
IsNext (Ok (Some (byte, after))) old feed buf left = Consumes old (coming after buf left) (byte ∷ [])
IsNext (Ok None) old feed buf left = Keeps old (coming feed buf left) × IsAtEnd (coming feed buf left)
IsNext (Err why) old feed buf left = Keeps old (coming feed buf left)
