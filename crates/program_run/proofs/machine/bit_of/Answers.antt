use mathlib.Core.Path.{refl}
use borrow.Author.Rules.{rules}
use borrow.Author.Tests.{le-ltb}
use Rattle.program_run.specs.Run.{bit}
use Rattle.program_run.proofs.Bits.{bit_past}
use Rattle.program_run.proofs.machine.bit_of.Goals as goal

pub returns-then-k-lt-MAX_COMPARISONS : goal.returns-then-k-lt-MAX_COMPARISONS
unfolding bit
returns-then-k-lt-MAX_COMPARISONS c = refl

pub returns-else-k-lt-MAX_COMPARISONS : goal.returns-else-k-lt-MAX_COMPARISONS
returns-else-k-lt-MAX_COMPARISONS c =
    rw (le-ltb c.args.k.0 64 c.if-k-lt-MAX_COMPARISONS.false) (bit_past _ _ (search rules) c.if-k-lt-MAX_COMPARISONS.false)
