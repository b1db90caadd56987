-- Lists in arrays: over the front of one that is lent, or in one of their own with filler behind.
use Rattle.std.specs.Prelude.{ℕ, ◌-◌, List, [], ◌∷◌, ◌++◌, length, replicate}

-- a list over the front of an array, whose rest stays as it was: an array keeps its length
unfoldable pub onto : {A : Type 0} → List A → List A → List A
onto [] old = old
onto (x ∷ xs) [] = []
onto (x ∷ xs) (y ∷ old) = x ∷ onto xs old

-- a list in an array of n, with filler behind it
abbrev pub pad {ℓ} : {A : Type ℓ} → ℕ → A → List A → List A
pad n filler xs = xs ++ replicate (n - length xs) filler
