use Rattle.std.proofs.Common.{drop}
use Rattle.arrays.proofs.Front.{Front}
use Rattle.name.specs.Normal.{normal}
use Rattle.name.proofs.write.Given as goal

-- the normal form of the bytes before i is written, and that of the rest is to come
abbrev pub invariant-loop-i : goal.invariant-loop-i
invariant-loop-i l = Front (normal l.name) (normal (drop l.i l.name)) l.initial.out l.out l.n
