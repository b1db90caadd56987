use native.Mathlib.Omega.{arith}
use Rattle.marker_steps.proofs.Laws.{kept_few, warned_few}
use Rattle.marker_steps.proofs.step.take_in.Goals as goal

-- whichever of the two sums comes first
pub overflow_add-sheet : goal.overflow_add-sheet
overflow_add-sheet c = let found = c.in_ok-verdict.field-0 in omega (arith, c.warned_in-warned.ensures found.span, warned_few found.verdict found.span, kept_few found.verdict)
