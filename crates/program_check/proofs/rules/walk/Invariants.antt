use Rattle.program_check.proofs.Walk.{Walked}
use Rattle.program_check.proofs.rules.walk.Given as goal

abbrev pub invariant-loop-at : goal.invariant-loop-at
invariant-loop-at l = Walked l.program l.count l.at l.height
