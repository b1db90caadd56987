use Rattle.std.proofs.Common.{rules}
use Rattle.marker_store.specs.Numbers.{comparison_in, warning_in}
use Rattle.marker_typed.specs.inner.Gather.{gathered}
use Rattle.marker_typed.proofs.gather.gather.Goals as goal

pub returns : goal.returns
unfolding gathered
returns c =
    rw (
      c.filled.ensures (comparison_in c.args.sheet.now.comparisons) (λ i x p. search rules),
      c.filled-2.ensures (warning_in c.args.sheet.now.warnings) (λ i x p. search rules),
    )
