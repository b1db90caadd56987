-- The first of some operators that a part of a text spells. Assumes nothing.
use mathlib.Core.Path.{◌≡◌, refl}
use mathlib.Core.List.{List, [], ◌∷◌}
use Prim.Native.Nat.{ℕ}
use Rattle.std.specs.List.{find}
use Rattle.text.specs.Word.{bytes, spells}
use Rattle.refusal.specs.declared.place.Span.{Span}
use Rattle.version_operator.specs.Operator.{spelling, operator_among}
use Rattle.version_operator.specs.declared.operator.Operator.{Operator}

pub found : (ops : List Operator) (s : List ℕ) (at : Span) → find (λ op. spells (bytes (spelling op)) s at) ops ≡ operator_among ops s at
unfolding operator_among
found [] s at = refl
found (op ∷ ops) s at = rw (found ops s at)
