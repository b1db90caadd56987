use Rattle.program_check.specs.Tree.{saying, tree_of, value}
use Rattle.program_run.specs.Run.{bit}
use Rattle.program_run.proofs.Runs.{Running}
use Rattle.program_run.proofs.machine.obey.Given as goal

abbrev pub invariant-loop-byte : goal.invariant-loop-byte
invariant-loop-byte l = Running (saying (bit l.assignment)) l.program (value (bit l.assignment) (tree_of l.program)) l.slots.items l.byte-index
