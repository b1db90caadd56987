-- What a run, a marker and a line leave in `figures`, and a line in its lists.
use Rattle.std.specs.Prelude.{ℕ, Bool, cond, List, [], ◌∷◌, ◌++◌, length, Option, Some, None}
use Rattle.refusal.specs.Answer.{Answer, on_good}
use Rattle.figures.specs.Numbers.{place_of}
use Rattle.marker.specs.Answer.{listed_of}
use Rattle.marker_steps.specs.Marking.{Marking}
use Rattle.line.specs.Figures.{Buffers, written}
use Rattle.line.specs.Line.{Parts, line_answer, shown}
use Rattle.refusal.specs.declared.place.Span.{Span}
use Rattle.program_run.specs.Run.{ran}

-- a program's answer as a number: 1 for yes, 0 for no
abbrev pub as_number : Answer Bool → Answer ℕ
as_number a = on_good (λ (v : Bool). cond v 1 0) a

abbrev pub ran_number : List ℕ → ℕ → ℕ → Answer ℕ
ran_number s count assignment = as_number (ran s count assignment)

-- how many comparisons, warnings and words
abbrev pub marker_counts : Marking → List ℕ
marker_counts m = length m.comparisons ∷ length m.warnings ∷ length m.words ∷ []

-- a marker's: behind the place the counts, 0 on a refusal
abbrev pub marker_figures : Answer Marking → List ℕ
marker_figures a = place_of a ++ marker_counts (listed_of a)

-- 1 and the URL's span, or 0, 0 and 0
abbrev pub url_figures : Option Span → List ℕ
url_figures None = 0 ∷ 0 ∷ 0 ∷ []
url_figures (Some at) = 1 ∷ at.start.0 ∷ at.len ∷ []

-- the name's span, the URL, how many extras and specifiers, the marker's counts
abbrev pub part_figures : Parts → List ℕ
part_figures p =
    (p.name.start.0 ∷ p.name.len ∷ []) ++ url_figures p.url ++ (length p.extras ∷ length p.specifiers ∷ []) ++ marker_counts p.marking

-- a line's: behind the place its parts, 0 on a refusal
abbrev pub line_figures : Answer Parts → List ℕ
line_figures a = place_of a ++ part_figures (shown a)

-- what the five arrays hold afterwards: each list over the front of its array
abbrev pub lists_left : List ℕ → Buffers → Buffers
lists_left s before = written (shown (line_answer s)) before.extras before.texts before.comparisons before.warnings before.words
