-- Scanning: how far a run of one class goes. Every scan of the code is `skip` at its class.
use Rattle.std.specs.Prelude.{ℕ, suc, ◌+◌, Bool, cond, List, [], ◌∷◌, drop, get_or}

-- the length of the longest prefix whose elements are all of class p
unfoldable pub run : {A : Type 0} → (A → Bool) → List A → ℕ
run p [] = 0
run p (b ∷ s) = let more = suc (run p s) in cond (p b) more 0

-- the place after the run of class p that starts at `at`
unfoldable pub skip : {A : Type 0} → (A → Bool) → List A → ℕ → ℕ
skip p s at = at + run p (drop at s)

-- the byte at a place, and 0 past the end
abbrev pub byte_at : List ℕ → ℕ → ℕ
byte_at s at = get_or s at 0
