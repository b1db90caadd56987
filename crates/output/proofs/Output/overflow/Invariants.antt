use Rattle.std.proofs.Common.{length, ◌+◌}
use Rattle.output.proofs.Gathered.{Filling}
use Rattle.output.proofs.Output.overflow.Given as goal

abbrev pub invariant-loop-self : goal.invariant-loop-self
invariant-loop-self l = Filling l.initial.self l.text l.self l.rest

abbrev pub decreases-loop-self : goal.decreases-loop-self
decreases-loop-self l = length l.rest + length l.self.bytes
