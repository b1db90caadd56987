-- What the quick door promises leaves one answer: two replies that meet it for the same line, over the same arrays, are equal, and so are the arrays
-- afterwards. Assumes nothing.
use mathlib.Core.Path.{◌≡◌, sym, ◌∙◌}
use Rattle.std.specs.Prelude.{Result}
use Rattle.line.specs.Figures.{Buffers, ReadInto}
use Rattle.line.specs.Line.{Parts}
use Rattle.line.specs.declared.figures.Figures.{Figures}
use Rattle.refusal.proofs.Numbers as Numbers
use Rattle.refusal.specs.Answer.{Answer}
use Rattle.refusal.specs.declared.fault.Refusal.{Refusal}

pub quick_own : (a : Answer Parts) (before : Buffers) (v w : Result Figures Refusal) (x y : Buffers) → ReadInto a before v x → ReadInto a before w y → (v ≡ w) × (x ≡ y)
quick_own a before v w x y p q = (Numbers.told_own v w (p.answer ∙ sym q.answer), p.output ∙ sym q.output)
