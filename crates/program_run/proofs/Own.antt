-- The runner's contract in document 01's terms leaves one answer. Assumes nothing.
use mathlib.Core.Bool.{Bool}
use mathlib.Core.Path.{◌≡◌}
use Rattle.refusal.proofs.Numbers.{told_own}
use Rattle.refusal.specs.Refusal.{told}
use Rattle.refusal.specs.declared.fault.Refusal.{Refusal}
use Rattle.std.specs.Prelude.{Result}

pub ran_own : (v w : Result Bool Refusal) → told v ≡ told w → v ≡ w
ran_own v w e = told_own v w e
