-- What number digits spell.
use Rattle.std.specs.Prelude.{◌≡◌, ◌≢◌, ℕ, ◌+◌, ◌-◌, ◌*◌, ◌<◌, ◌≤◌, List, [], ◌∷◌, length, slice_index}

-- behind digits that spell `n`, in ASCII
abbrev pub continued : ℕ → List ℕ → ℕ
continued n [] = n
continued n (digit ∷ behind) = continued (10 * n + (digit - 48)) behind

-- digits of ASCII that spell `n`, and no 0 stands in front of others
pub record Spells (digits : List ℕ) (n : ℕ) : Type 0 where
  pub some : 0 < length digits
  pub ascii : (k : ℕ) → k < length digits → (48 ≤ slice_index digits k) × (slice_index digits k ≤ 57)
  pub value : continued 0 digits ≡ n
  pub shortest : 1 < length digits → slice_index digits 0 ≢ 48
