-- What the door promises leaves one answer: two that meet it for the same line are equal. Assumes nothing.
use mathlib.Core.Path.{◌≡◌, sym, ◌∙◌}
use Rattle.std.specs.Prelude.{Result}
use Rattle.refusal.proofs.Numbers as Numbers
use Rattle.refusal.specs.Answer.{Answer, on_good}
use Rattle.refusal.specs.Refusal.{told}
use Rattle.refusal.specs.declared.fault.Refusal.{Refusal}
use Rattle.line.specs.Line.{Parts}
use Rattle.line_typed.specs.Requirement.{filled}
use Rattle.line_typed.specs.declared.door.Requirement.{Requirement}

pub told_own : (a : Answer Parts) (v w : Result Requirement Refusal) → told v ≡ on_good filled a → told w ≡ on_good filled a → v ≡ w
told_own a v w p q = Numbers.told_own v w (p ∙ sym q)
