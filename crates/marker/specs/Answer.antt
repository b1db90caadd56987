-- What the marker entry answers, and what it has read then. How that stands in arrays is said by `Numbers` of `marker_store`.
use Rattle.std.specs.Prelude.{ℕ, List, length}
use Rattle.cursor.specs.Check.{checked}
use Rattle.marker_steps.specs.Grammar.{Parsed, got, fault, parse_from}
use Rattle.marker_steps.specs.Marking.{Marking, marking, nothing}
use Rattle.marker_store.specs.declared.marks.Counts.{Counts}
use Rattle.refusal.specs.Answer.{Answer, good, good_or}
use Rattle.refusal.specs.Refusal.{given}

abbrev pub answered : Parsed → Answer Marking
answered (got t e) = good (marking t)
answered (fault why) = given why

-- the answer for the marker that starts at a place and goes to the end of the line
abbrev pub marker_answer : List ℕ → ℕ → Answer Marking
marker_answer s at = answered (parse_from s at)

-- the marker entry's: "refuse first 1, then 2, then the first fault met"
abbrev pub entry_answer : List ℕ → Answer Marking
entry_answer s = checked s (marker_answer s 0)

-- "A refusal carries number, start, length and nothing else; all lists are empty."
abbrev pub listed_of : Answer Marking → Marking
listed_of a = good_or nothing a

abbrev pub marking_from : List ℕ → ℕ → Marking
marking_from s at = listed_of (marker_answer s at)

abbrev pub entry_marking : List ℕ → Marking
entry_marking s = listed_of (entry_answer s)

abbrev pub counts_of : Marking → Counts
counts_of m = record { kept = length m.comparisons; warned = length m.warnings; words = length m.words }
