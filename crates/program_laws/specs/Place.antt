-- What the check's answers say of a program, by the stack rules alone.
use Rattle.std.specs.Prelude.{ℕ, ◌≤◌, ◌<◌, true, false, List, ◌≡◌, length, take}
use Rattle.refusal.specs.Answer.{Answer, refused, passes}
use Rattle.text.specs.Scan.{byte_at}
use Rattle.refusal.specs.declared.place.ComparisonNumber.{ComparisonNumber}
use Rattle.program_check.specs.Rules.{max_words, max_slots, is_operator, height}
use Rattle.cursor.specs.Limits.{max_comparisons}
use Rattle.program_check.specs.Word.{word}
use Rattle.program_check.specs.declared.word.Word.TheVariants.{Push, Unknown}

-- the word at a place breaks a stack rule, given the words before it
pub data Breaks (s : List ℕ) (count i : ℕ) : Type 0 where
  -- "(a 128th always is)" at fault
  late : max_words ≤ i → Breaks s count i
  -- "all known"
  strange : word (byte_at s i) ≡ Unknown → Breaks s count i
  -- "each comparison number below the count"
  above : (k : ComparisonNumber) → word (byte_at s i) ≡ Push k → count ≤ k.0 → Breaks s count i
  -- "an operator finds at least two values"
  lacking : is_operator (word (byte_at s i)) ≡ true → height 0 (take i s) < 2 → Breaks s count i
  -- "at most 35 stand at any time": what is no operator pushes, or is unknown
  crowding : is_operator (word (byte_at s i)) ≡ false → max_slots ≤ height 0 (take i s) → Breaks s count i

-- no word before a place does
abbrev pub KeptTo : List ℕ → ℕ → ℕ → Type 0
KeptTo s count i = (j : ℕ) → j < i → Breaks s count j → ⊥

-- the four answers, and what each says: "over that it is 31"; "Refusal 30 starts at the first word at fault", "at the length if only the end is
-- wrong"; "A program passes"
pub data Says (s : List ℕ) (count : ℕ) : Answer (Unit {0}) → Type 0 where
  too_many : max_comparisons < count → Says s count (refused 31 0 1)
  at_word : (i : ℕ) → count ≤ max_comparisons → i < length s → Breaks s count i → KeptTo s count i → Says s count (refused 30 i 1)
  at_end : count ≤ max_comparisons → KeptTo s count (length s) → (height 0 s ≡ 1 → ⊥) → Says s count (refused 30 (length s) 1)
  passing : count ≤ max_comparisons → KeptTo s count (length s) → height 0 s ≡ 1 → Says s count passes
