-- 0 is returned for no refusal: a caller may take 0 for yes. Assumes nothing.
use mathlib.Core.Path.{◌≡◌, sym, ap, ◌∙◌}
use native.Mathlib.Omega.{arith}
use Rattle.refusal.proofs.Numbers.{numbered}
use Rattle.refusal.specs.Refusal.{given, fault_number}
use Rattle.refusal.specs.declared.fault.Fault.{Fault}
use Rattle.refusal.specs.declared.fault.Fault.TheVariants.{TooLong}
use Rattle.refusal.specs.declared.fault.Refusal.{Refusal}
use Rattle.figures.specs.Numbers.{number_of}

fault_not_0 : (f : Fault) → fault_number f ≡ 0 → ⊥
fault_not_0 f e =
    let first : f ≡ TooLong = sym (numbered f) ∙ rw e in
    let one : fault_number f ≡ 1 = ap fault_number first in
    omega arith

pub refused_not_0 : (A : Type 0) (why : Refusal) → number_of (given {A = A} why) ≡ 0 → ⊥
unfolding given
refused_not_0 A why e = fault_not_0 why.fault e
