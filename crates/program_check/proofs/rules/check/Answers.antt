use Rattle.program_check.proofs.Walk.{walks}
use Rattle.program_check.proofs.rules.check.Goals as goal

pub returns-then-count-gt-MAX_COMPARISONS : goal.returns-then-count-gt-MAX_COMPARISONS
returns-then-count-gt-MAX_COMPARISONS c = search walks
