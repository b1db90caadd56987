use Rattle.std.proofs.Common.{rules, ◌+◌, ◌++◌, length, arith, ap, ◌∙◌}
use Rattle.std.proofs.lemmas.Slice.{take-put_mid}
use Rattle.output.proofs.Gathered.{gathers_all, gathers_none}
use Rattle.output.proofs.Output.add.Goals as goal

pub returns-then-self : goal.returns-then-self
returns-then-self c = gathers_none _ _ _ (grind (rules, c.self.view_is, c.self.invariant, c.if-self.true)) (λ b l. grind (rules, b, c.self.view_is, c.if-self.true)) (λ t. t)

pub returns : goal.returns
returns c =
    gathers_all _ _ _
    (grind (rules, c.self.view_is, c.if-self.false))
    (take-put_mid c.self.inside.waiting _ c.self.inside.buf c.copy_from_slice.new.self (c.self.inside.waiting + length c.args.text.now) (rw (c.copy_from_slice.ensures.after) search rules) (omega (arith, c.self.invariant, c.self.told))
    ∙ rw (c.copy_from_slice.ensures.after) (ap (λ g. g.bytes ++ c.args.text.now) c.self.view_is))
    (ap (λ g. g.broken) c.self.view_is)
