use Rattle.cursor.proofs.Checks.{checked_refused}
use Rattle.cursor.proofs.Passed.{told_passed, refused_on}
use Rattle.line.proofs.Quickly.{head_refused, names_fit, asked_fit}
use Rattle.line_typed.proofs.Laws.{marker_refused, whole_read}
use Rattle.line_typed.proofs.door.read_line.Goals as goal

-- refusals 1 and 2
pub returns-in_err-check_line : goal.returns-in_err-check_line
returns-in_err-check_line c =
    told_passed _ _ _ c.from_residual.ensures.1 (refused_on _ _ _ (checked_refused c.args.line.now _ _ c.check_line.ensures _ c.in_err-check_line.was))

-- the parts before the marker are refused
pub returns-in_err-head : goal.returns-in_err-head
returns-in_err-head c =
    told_passed _ _ _ c.from_residual-in_err-head.ensures.1
    (refused_on _ _ _ (head_refused c.args.line.now _ _ c.check_line.ensures c.in_ok-check_line.was c.in_err-head.ensures.answer))

-- the marker is
pub returns-in_err-marker : goal.returns-in_err-marker
returns-in_err-marker c =
    told_passed _ _ _ c.from_residual-in_err-marker.ensures.1
    (refused_on _ _ _ (marker_refused c.args.line.now c.in_ok-head.head c.in_ok-head.ensures.answer _ c.check_line.ensures c.in_ok-check_line.was _ c.in_err-marker.ensures))

-- all is read
pub list_of-requires : goal.list_of-requires
list_of-requires c = names_fit c.args.line.now c.in_ok-head.head c.in_ok-head.ensures.answer

pub list_of-requires-2 : goal.list_of-requires-2
list_of-requires-2 c = asked_fit c.args.line.now c.in_ok-head.head c.in_ok-head.ensures.answer _ c.text_count.ensures

pub returns : goal.returns
returns c =
    whole_read c.args.line.now c.in_ok-head.head c.in_ok-head.ensures.answer _ c.check_line.ensures c.in_ok-check_line.was _ _ _ _ _ _ _ c.in_ok-marker.ensures c.head_of.ensures.extras c.head_of.ensures.written c.text_count.ensures c.list_of.ensures c.list_of-2.ensures c.url_of.ensures
