use Rattle.marker_steps.proofs.Laws.{slack_read}
use Rattle.marker_steps.proofs.step.join.Goals as goal

pub push-requires : goal.push-requires
push-requires c = slack_read _ _ _ (c.requires c.if-some_left.true) c.in_ok-next.was c.if-some.true
