-- The contract in document 01's terms leaves one answer. Assumes nothing.
use mathlib.Core.Path.{◌≡◌}
use Rattle.std.specs.Prelude.{Result}
use Rattle.refusal.proofs.Numbers as Numbers
use Rattle.refusal.specs.Refusal.{told}
use Rattle.refusal.specs.declared.fault.Refusal.{Refusal}
use Rattle.line_head.specs.declared.part.Head.{Head}

pub told_own : (v w : Result Head Refusal) → told v ≡ told w → v ≡ w
told_own = Numbers.told_own
