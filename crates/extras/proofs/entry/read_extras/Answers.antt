use Rattle.cursor.proofs.Checks.{checked_refused}
use Rattle.cursor.proofs.Passed.{told_passed, refused_on}
use Rattle.extras.proofs.Laws.{count_few, entry_refused, filled_read}
use Rattle.extras.proofs.entry.read_extras.Goals as goal

-- refusals 1 and 2
pub returns-in_err-check_line : goal.returns-in_err-check_line
returns-in_err-check_line c =
    told_passed _ _ _ c.from_residual.ensures.1 (refused_on _ _ _ (checked_refused c.args.line.now _ _ c.check_line.ensures _ c.in_err-check_line.was))

-- the extras are refused
pub returns-in_err-count : goal.returns-in_err-count
returns-in_err-count c =
    told_passed _ _ _ c.from_residual-in_err-count.ensures.1
    (refused_on _ _ _ (entry_refused c.args.line.now _ c.check_line.ensures c.in_ok-check_line.was _ c.in_err-count.ensures.answer))

-- they are read
pub gather-extras-requires : goal.gather-extras-requires
gather-extras-requires c = count_few c.args.line.now _ _ c.in_ok-count.ensures.answer

pub returns : goal.returns
returns c = filled_read c.args.line.now _ c.check_line.ensures c.in_ok-check_line.was _ _ c.in_ok-count.ensures.answer _ c.extras_at.ensures.written _ c.gather-extras.ensures
