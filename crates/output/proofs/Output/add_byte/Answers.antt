use Rattle.std.proofs.Common.{rules}
use Rattle.output.proofs.Gathered.{gathers_none}
use Rattle.output.proofs.Output.add_byte.Goals as goal

pub returns-else-not-self : goal.returns-else-not-self
returns-else-not-self c = gathers_none _ _ _ (grind (rules, c.self.view_is, c.self.invariant, c.if-not-self.false)) (λ b l. grind (rules, b, c.self.view_is, c.if-not-self.false)) (λ t. t)
