use Rattle.std.proofs.Common.{ℕ, List, length, arith, ap, sym}
use Rattle.std.proofs.lemmas.List.{take-append-drop}
use Rattle.output.proofs.Gathered.{counted, filling_start, filling_turn, filling_end}
use Rattle.output.proofs.Output.overflow.Goals as goal

pub loop-self-init : goal.loop-self-init
loop-self-init c = filling_start c.args.self.now c.args.text.now

pub loop-self-smaller : goal.loop-self-smaller
loop-self-smaller c =
    let n = counted _ c.self.inside.buf c.self.inside.waiting _ c.self.view_is (omega (arith, c.self.invariant, c.self.told)) in
    let none = ap (λ (l : List ℕ). length l) c.flush.ensures.none in
    omega (arith, n, none, c.self.invariant, c.loop-self-test.true, c.split_at.ensures.back_len)

pub loop-self-preserved : goal.loop-self-preserved
loop-self-preserved c =
    let n = counted _ c.self.inside.buf c.self.inside.waiting _ c.self.view_is (omega (arith, c.self.invariant, c.self.told)) in
    filling_turn _ _ _ _ c.loop-self.invariant c.split_at.result.0.now c.split_at.result.1.now c.add.new.self c.flush.new.self
    (rw (c.split_at.ensures.front, c.split_at.ensures.back) (sym (take-append-drop _ c.loop-self.rest.now)))
    (omega (arith, n, c.self.invariant, c.loop-self-test.true))
    c.add.ensures c.flush.ensures.none c.flush.ensures.broken

pub returns : goal.returns
returns c = filling_end _ _ _ _ c.loop-self.invariant c.add-2.new.self c.add-2.ensures
