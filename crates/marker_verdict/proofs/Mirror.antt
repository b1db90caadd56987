-- Mirroring an operator twice gives it back. Assumes nothing.
use mathlib.Core.Path.{◌≡◌, refl}
use Rattle.marker_kind.specs.declared.kind.Operator.{Operator}
use Rattle.marker_kind.specs.declared.kind.Operator.TheVariants.{Equal, NotEqual, Less, LessEqual, Greater, GreaterEqual, Compatible, In, NotIn, Contains, NotContains}
use Rattle.marker_verdict.specs.Verdict.{mirror}

pub mirror_twice : (op : Operator) → mirror (mirror op) ≡ op
mirror_twice Equal = refl
mirror_twice NotEqual = refl
mirror_twice Less = refl
mirror_twice LessEqual = refl
mirror_twice Greater = refl
mirror_twice GreaterEqual = refl
mirror_twice Compatible = refl
mirror_twice In = refl
mirror_twice NotIn = refl
mirror_twice Contains = refl
mirror_twice NotContains = refl
