use Rattle.program_check.proofs.Walk.{words_refused, words_end}
use Rattle.program_check.proofs.rules.check_words.Goals as goal

pub returns-in_err-walk : goal.returns-in_err-walk
returns-in_err-walk c = words_refused _ _ _ c.walk.ensures _ _ c.in_err-walk.was c.from_residual.ensures.1

pub returns : goal.returns
returns c = words_end _ _ _ c.walk.ensures _ c.in_ok-walk.was _ c.if-branch-eq1.false c.new.ensures
