use Rattle.std.proofs.Common.{◌≤◌}
use Rattle.program_cases.proofs.count_all.Given as goal

abbrev pub invariant-loop-cases : goal.invariant-loop-cases
invariant-loop-cases l = l.differ ≤ l.cases
