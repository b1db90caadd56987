-- How the quick door answers what is read, and what the lent arrays hold afterwards.
use Rattle.std.specs.Prelude.{ℕ, List, ◌≡◌, length, Result}
use Rattle.arrays.specs.Front.{onto}
use Rattle.refusal.specs.Answer.{Answer, on_good}
use Rattle.refusal.specs.Refusal.{told}
use Rattle.refusal.specs.declared.fault.Refusal.{Refusal}
use Rattle.spans.specs.Flat.{spans_onto}
use Rattle.marker.specs.Answer.{counts_of}
use Rattle.marker_steps.specs.Marking.{comparisons_as, warnings_as}
use Rattle.line.specs.Line.{Parts, shown}
use Rattle.line.specs.declared.figures.Figures.{Figures}

-- the single spans and the counts
abbrev pub figures_of : Parts → Figures
figures_of p = record { name = p.name; extras = length p.extras; specifiers = length p.specifiers; url = p.url; marker = counts_of p.marking }

-- what the five arrays hold
pub record Buffers : Type 0 where
  pub extras : List ℕ
  pub texts : List ℕ
  pub comparisons : List ℕ
  pub warnings : List ℕ
  pub words : List ℕ

abbrev pub buffers : List ℕ → List ℕ → List ℕ → List ℕ → List ℕ → Buffers
buffers extras texts comparisons warnings words = record { extras = extras; texts = texts; comparisons = comparisons; warnings = warnings; words = words }

-- each list over the front of its array, whose rest stays; a refusal's lists are empty, so all stays
abbrev pub written : Parts → List ℕ → List ℕ → List ℕ → List ℕ → List ℕ → Buffers
written p extras texts comparisons warnings words =
    buffers (spans_onto p.extras extras) (spans_onto p.specifiers texts) (onto (comparisons_as p.marking) comparisons) (onto (warnings_as p.marking) warnings) (onto p.marking.words words)

-- what the door promises of its reply and of the arrays, for what the line is read as
pub record ReadInto (a : Answer Parts) (before : Buffers) (r : Result Figures Refusal) (after : Buffers) : Type 0 where
  pub answer : told r ≡ on_good figures_of a
  pub output : after ≡ written (shown a) before.extras before.texts before.comparisons before.warnings before.words
