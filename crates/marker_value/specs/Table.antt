-- A table of fixed words, each with what it stands for.
use Rattle.std.specs.Prelude.{ℕ, cond, List, [], ◌∷◌, Option, Some, None}
use Rattle.refusal.specs.declared.place.Span.{Span}
use Rattle.text.specs.Word.{spells}

-- what stands beside the first word that a span is
abbrev pub among : {X : Type 0} → List (List ℕ × X) → List ℕ → Span → Option X
among [] s at = None
among (e ∷ more) s at = cond (spells e.0 s at) (Some e.1) (among more s at)
