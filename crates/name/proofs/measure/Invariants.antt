use Rattle.std.proofs.Common.{◌≡◌, ◌≤◌, length, drop, ◌+◌}
use Rattle.name.specs.Normal.{normal}
use Rattle.name.proofs.measure.Given as goal

abbrev pub invariant-loop-i : goal.invariant-loop-i
invariant-loop-i l = (l.n ≤ l.i) × (l.n + length (normal (drop l.i l.name)) ≡ length (normal l.name))
