use Rattle.std.proofs.Common.{ℕ, min, List}
use Rattle.std.specs.Io.KnownBytes.{Consumes}
use Rattle.input.specs.Coming.{coming, IsLine}
use Rattle.input.proofs.take_line.Given as goal

abbrev pub invariant-loop-len : goal.invariant-loop-len
invariant-loop-len g l =
    (text : List ℕ) × IsLine l.len (min l.len 20001) l.last l.line text
    × Consumes (coming l.initial.rest l.initial.buf (g.R.Read.remaining l.initial.from)) (coming l.rest l.buf (g.R.Read.remaining l.from)) text
