use Rattle.std.proofs.Common.{◌≡◌}
use Rattle.spans.specs.Flat.{loaded, padded}
use Rattle.spans.proofs.store.gather.Given as goal

abbrev pub invariant-loop-i : goal.invariant-loop-i
invariant-loop-i l = l.spans ≡ padded (loaded l.i l.list)
