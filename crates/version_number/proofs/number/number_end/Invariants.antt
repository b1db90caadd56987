use Rattle.version_number.proofs.Numbers.{Counted}
use Rattle.version_number.proofs.number.number_end.Given as goal

abbrev pub invariant-loop-end : goal.invariant-loop-end
invariant-loop-end l = Counted l.text l.at l.value l.end
