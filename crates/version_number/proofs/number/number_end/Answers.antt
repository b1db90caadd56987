use Rattle.version_number.proofs.Numbers.{number}
use Rattle.version_number.proofs.number.number_end.Goals as goal

pub loop-end-preserved : goal.loop-end-preserved
loop-end-preserved c = search number
