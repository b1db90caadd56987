use Rattle.spans.proofs.Arrays.{gathered}
use Rattle.spans.proofs.store.gather.Goals as goal

pub loop-i-init : goal.loop-i-init
loop-i-init c = search gathered

pub loop-i-preserved : goal.loop-i-preserved
loop-i-preserved c = search gathered

pub returns : goal.returns
returns c = search gathered
