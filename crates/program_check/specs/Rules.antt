-- The stack rules, over the program and the count of comparisons.
use Rattle.std.specs.Prelude.{ℕ, ◌+◌, ◌-◌, ◌≤◌, ◌<◌, max, Bool, true, false, ◌&&◌, List, [], ◌∷◌, ◌≡◌, ltb, leb, length, take}
use Rattle.cursor.specs.Limits.{max_comparisons}
use Rattle.text.specs.Scan.{byte_at}
use Rattle.refusal.specs.declared.place.ComparisonNumber.{ComparisonNumber}
use Rattle.program_check.specs.Word.{word}
use Rattle.program_check.specs.declared.word.Word.{Word}
use Rattle.program_check.specs.declared.word.Word.TheVariants.{Push, And, Or, Yes, Unknown}

-- "1 to 127 words"
abbrev pub max_words : ℕ
max_words = 127

-- "at most 35 stand at any time"
abbrev pub max_slots : ℕ
max_slots = 35

-- "64 is and, 65 is or": an operator takes two values and leaves one
abbrev pub is_operator : Word → Bool
is_operator (Push k) = false
is_operator And = true
is_operator Or = true
is_operator Yes = false
is_operator Unknown = false

-- how many values stand after a word, where h stood before it
abbrev pub after : ℕ → Word → ℕ
after h (Push k) = h + 1
after h And = h - 1
after h Or = h - 1
after h Yes = h + 1
after h Unknown = h

-- and after a program
unfoldable pub height : ℕ → List ℕ → ℕ
height h [] = h
height h (b ∷ s) = height (after h (word b)) s

-- how many stood at once, at most
unfoldable pub highest : ℕ → List ℕ → ℕ
highest h [] = h
highest h (b ∷ s) = max h (highest (after h (word b)) s)

-- "A program passes for a count of at most 64 comparisons .. if it has 1 to 127 words, all known, each comparison number below the count; an
-- operator finds at least two values; at most 35 stand at any time; one stands at the end."
pub record StackRules (s : List ℕ) (count : ℕ) : Type 0 where
  pub few : count ≤ max_comparisons
  pub some : 1 ≤ length s
  pub short : length s ≤ max_words
  pub known : (i : ℕ) → i < length s → word (byte_at s i) ≡ Unknown → ⊥
  pub below : (i : ℕ) (k : ComparisonNumber) → i < length s → word (byte_at s i) ≡ Push k → k.0 < count
  pub finds : (i : ℕ) → i < length s → is_operator (word (byte_at s i)) ≡ true → 2 ≤ height 0 (take i s)
  pub stand : (i : ℕ) → i ≤ length s → height 0 (take i s) ≤ max_slots
  pub one : height 0 s ≡ 1

-- whether a word may come where h values stand: it is known, its number is below the count, it finds two values if it is an operator, and
-- at most 35 stand after it
abbrev pub allowed : ℕ → ℕ → Word → Bool
allowed count h (Push k) = ltb k.0 count && ltb h max_slots
allowed count h And = leb 2 h
allowed count h Or = leb 2 h
allowed count h Yes = ltb h max_slots
allowed count h Unknown = false

-- "(a 128th always is)" at fault
abbrev pub sound : ℕ → ℕ → ℕ → Word → Bool
sound count at h w = ltb at max_words && allowed count h w
