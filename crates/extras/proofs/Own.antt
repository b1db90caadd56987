-- The contracts in document 01's terms leave one answer. Assumes nothing.
use mathlib.Core.Path.{◌≡◌}
use Prim.Native.Nat.{ℕ}
use Rattle.std.specs.Prelude.{Result}
use Rattle.refusal.proofs.Numbers as Numbers
use Rattle.refusal.specs.Refusal.{told}
use Rattle.refusal.specs.declared.fault.Refusal.{Refusal}
use Rattle.extras.specs.declared.entry.Extras.{Extras}

pub told_own : (v w : Result Extras Refusal) → told v ≡ told w → v ≡ w
told_own = Numbers.told_own

pub count_own : (v w : Result ℕ Refusal) → told v ≡ told w → v ≡ w
count_own = Numbers.told_own
