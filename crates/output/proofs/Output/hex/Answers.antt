use Rattle.std.proofs.Common.{[], ◌∷◌}
use Rattle.output.proofs.Gathered.{gathers_both}
use Rattle.output.proofs.Output.hex.Goals as goal

pub returns : goal.returns
returns c = rw (← c.hex_digit.ensures, ← c.hex_digit-2.ensures) (gathers_both _ _ _ (c.hex_digit.result ∷ []) (c.hex_digit-2.result ∷ []) c.put.ensures c.put-2.ensures)
