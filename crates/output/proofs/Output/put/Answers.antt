use Rattle.std.proofs.Common.{arith}
use Rattle.output.proofs.Gathered.{counted, gathers_flushed}
use Rattle.output.proofs.Output.put.Goals as goal

pub returns : goal.returns
returns c =
    let n = counted _ c.self.inside.buf c.self.inside.waiting _ c.self.view_is (omega (arith, c.self.invariant, c.self.told)) in
    gathers_flushed _ c.flush.new.self _ _ (omega (arith, n, c.if-self-lt-ROOM.false)) c.flush.ensures.none c.flush.ensures.broken c.add_byte-2.ensures
