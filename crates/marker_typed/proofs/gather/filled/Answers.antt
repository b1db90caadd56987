use native.Mathlib.Omega.{arith}
use Rattle.std.proofs.Common.{refl}
use Rattle.marker_typed.proofs.Gathers.{loading}
use Rattle.marker_typed.proofs.gather.filled.Goals as goal

pub loop-i-init : goal.loop-i-init
loop-i-init g c = λ f same. refl

pub loop-i-preserved : goal.loop-i-preserved
loop-i-preserved g c = λ f same. loading f _ _ (c.loop-i.invariant f same) (same _ _ c.entry.ensures) (omega arith)
