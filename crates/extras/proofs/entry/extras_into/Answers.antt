use Rattle.cursor.proofs.Checks.{checked_refused}
use Rattle.cursor.proofs.Passed.{told_passed, refused_on}
use Rattle.extras.proofs.Laws.{unwritten, count_few, entry_refused, written_read}
use Rattle.extras.proofs.entry.extras_into.Goals as goal

-- refusals 1 and 2
pub returns-in_err-check_line-clause-answer : goal.returns-in_err-check_line-clause-answer
returns-in_err-check_line-clause-answer c =
    told_passed _ _ _ c.from_residual.ensures.1 (refused_on _ _ _ (checked_refused c.args.line.now _ _ c.check_line.ensures _ c.in_err-check_line.was))

pub returns-in_err-check_line-clause-output : goal.returns-in_err-check_line-clause-output
returns-in_err-check_line-clause-output c = unwritten c.args.line.now _ _ (checked_refused c.args.line.now _ _ c.check_line.ensures _ c.in_err-check_line.was)

-- the extras are refused
pub returns-in_err-count-clause-answer : goal.returns-in_err-count-clause-answer
returns-in_err-count-clause-answer c =
    told_passed _ _ _ c.from_residual-in_err-count.ensures.1
    (refused_on _ _ _ (entry_refused c.args.line.now _ c.check_line.ensures c.in_ok-check_line.was _ c.in_err-count.ensures.answer))

pub returns-in_err-count-clause-output : goal.returns-in_err-count-clause-output
returns-in_err-count-clause-output c = unwritten c.args.line.now _ _ (entry_refused c.args.line.now _ c.check_line.ensures c.in_ok-check_line.was _ c.in_err-count.ensures.answer)

-- they are read
pub copy-requires : goal.copy-requires
copy-requires c = count_few c.args.line.now _ _ c.in_ok-count.ensures.answer

pub returns-clause-output : goal.returns-clause-output
returns-clause-output c =
    written_read c.args.line.now _ c.check_line.ensures c.in_ok-check_line.was _ _ c.in_ok-count.ensures.answer _ c.extras_at.ensures.written _ _ c.copy.ensures
