-- What is read of a marker: its comparisons, its warnings and its program.
use Rattle.std.specs.Prelude.{ℕ, ◌+◌, Bool, true, false, cond, ◌||◌, List, [], ◌∷◌, ◌++◌, length}
use Rattle.marker_verdict.specs.declared.verdict.Verdict.{Verdict}
use Rattle.marker_verdict.specs.declared.verdict.Verdict.TheVariants.{Kept, KeptWarned, Ignored, IgnoredTwice}
use Rattle.marker_kind.specs.declared.kind.Comparison.{Comparison}
use Rattle.marker_steps.specs.Grammar.{Tree, compared, both, either, group, kept_of, warned_of}
use Rattle.marker_store.specs.Numbers.{comparison_numbers, warning_numbers, all_numbers}
use Rattle.marker_store.specs.declared.marks.Warning.{Warning}

-- whether anything of a tree is kept
abbrev pub is_kept : Verdict → Bool
is_kept (Kept c) = true
is_kept (KeptWarned c) = true
is_kept (Ignored kind) = false
is_kept (IgnoredTwice kind) = false

unfoldable pub some : Tree → Bool
some (compared v x) = is_kept v
some (both a b) = some a || some b
some (either a b) = some a || some b
some (group a) = some a

-- "0 to 63 push that comparison": the word of one that is kept and has the number n
abbrev pub push : Verdict → ℕ → List ℕ
push (Kept c) n = n ∷ []
push (KeptWarned c) n = n ∷ []
push (Ignored kind) n = []
push (IgnoredTwice kind) n = []

-- "an operator comes as soon as both sides are there": it stands where both sides keep something
abbrev pub joint : Bool → Bool → ℕ → List ℕ
joint true true w = w ∷ []
joint true false w = []
joint false d w = []

-- "64 is and, 65 is or": the words of a tree whose first kept comparison has the number n
unfoldable pub words_from : ℕ → Tree → List ℕ
words_from n (compared v x) = push v n
words_from n (both a b) = words_from n a ++ (words_from (n + length (kept_of a)) b ++ joint (some a) (some b) 64)
words_from n (either a b) = words_from n a ++ (words_from (n + length (kept_of a)) b ++ joint (some a) (some b) 65)
words_from n (group a) = words_from n a

-- "Kept comparisons are numbered from 0 as read." "If all is ignored, the program is the one word 66."
unfoldable pub program : Tree → List ℕ
program t = cond (some t) (words_from 0 t) (66 ∷ [])

pub record Marking : Type 0 where
  pub comparisons : List Comparison
  pub warnings : List Warning
  pub words : List ℕ

abbrev pub marking : Tree → Marking
marking t = record { comparisons = kept_of t; warnings = warned_of t; words = program t }

abbrev pub nothing : Marking
nothing = record { comparisons = []; warnings = []; words = [] }

-- in numbers
abbrev pub comparisons_as : Marking → List ℕ
comparisons_as m = all_numbers comparison_numbers m.comparisons

abbrev pub warnings_as : Marking → List ℕ
warnings_as m = all_numbers warning_numbers m.warnings
