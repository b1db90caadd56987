-- What the check answers: the number, and where the first fault is.
use Rattle.std.specs.Prelude.{ℕ, zero, suc, Bool, cond, List, [], ◌∷◌, ltb, eqb, length, take}
use Rattle.refusal.specs.Answer.{Answer, refused, passes}
use Rattle.text.specs.Scan.{run, byte_at}
use Rattle.program_check.specs.Rules.{sound, height}
use Rattle.cursor.specs.Limits.{max_comparisons}
use Rattle.program_check.specs.Word.{word}

-- whether the word at a place is not at fault
abbrev pub keeps : List ℕ → ℕ → ℕ → Bool
keeps s count i = sound count i (height 0 (take i s)) (word (byte_at s i))

-- n places from one on
abbrev pub places : ℕ → ℕ → List ℕ
places at zero = []
places at (suc n) = at ∷ places (suc at) n

-- "the first word at fault"; the length where none is
unfoldable pub fault_at : List ℕ → ℕ → ℕ
fault_at s count = run (keeps s count) (places 0 (length s))

-- "Refusal 30 starts at the first word at fault (a 128th always is), at 0 if empty, at the length if only the end is wrong." An empty program's
-- length is 0, and its end is wrong: no value stands there.
abbrev pub checked_words : List ℕ → ℕ → Answer (Unit {0})
checked_words s count =
    cond (ltb (fault_at s count) (length s)) (refused 30 (fault_at s count) 1)
    (cond (eqb (height 0 s) 1) passes
    (refused 30 (length s) 1))

-- "31: comparison count over 64: 0, 1", "31 before 30"
abbrev pub checked_program : List ℕ → ℕ → Answer (Unit {0})
checked_program s count = cond (ltb max_comparisons count) (refused 31 0 1) (checked_words s count)
