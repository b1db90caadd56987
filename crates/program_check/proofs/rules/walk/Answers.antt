use Rattle.program_check.proofs.Walk.{walks}
use Rattle.program_check.proofs.rules.walk.Goals as goal

pub loop-at-init : goal.loop-at-init
loop-at-init c = search walks

pub returns-in_default : goal.returns-in_default
returns-in_default c = search walks

pub loop-at-preserved : goal.loop-at-preserved
loop-at-preserved c = search walks

pub returns : goal.returns
returns c = search walks
