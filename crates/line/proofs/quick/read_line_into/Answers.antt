use Rattle.cursor.proofs.Checks.{checked_refused}
use Rattle.line.proofs.Quickly.{refused_into, head_refused, names_fit, asked_fit, marker_into, read_into}
use Rattle.line.proofs.quick.read_line_into.Goals as goal

-- refusals 1 and 2
pub returns-in_err-check_line : goal.returns-in_err-check_line
returns-in_err-check_line c =
    refused_into _ _ _ _ (checked_refused c.args.line.now _ _ c.check_line.ensures _ c.in_err-check_line.was) c.from_residual.ensures.1

-- the parts before the marker are refused
pub returns-in_err-head : goal.returns-in_err-head
returns-in_err-head c =
    refused_into _ _ _ _ (head_refused c.args.line.now _ _ c.check_line.ensures c.in_ok-check_line.was c.in_err-head.ensures.answer) c.from_residual-in_err-head.ensures.1

-- the marker is
pub returns-in_err-marker : goal.returns-in_err-marker
returns-in_err-marker c =
    let m = c.marker_into.ensures in
    marker_into c.args.line.now c.in_ok-head.head c.in_ok-head.ensures.answer _ c.check_line.ensures c.in_ok-check_line.was _ _ _ _ _ _ _ _ _ _ c.in_err-marker.ensures.answer c.from_residual-in_err-marker.ensures.1 m.comparisons m.warnings m.words

-- all is read
pub copy-requires : goal.copy-requires
copy-requires c = names_fit c.args.line.now c.in_ok-head.head c.in_ok-head.ensures.answer

pub copy-requires-2 : goal.copy-requires-2
copy-requires-2 c = asked_fit c.args.line.now c.in_ok-head.head c.in_ok-head.ensures.answer _ c.text_count.ensures

pub returns : goal.returns
returns c =
    let m = c.marker_into.ensures in
    read_into c.args.line.now c.in_ok-head.head c.in_ok-head.ensures.answer _ c.check_line.ensures c.in_ok-check_line.was _ _ _ _ _ _ _ _ _ _ _ _ _ _ _ c.in_ok-marker.ensures.answer c.figures_of.ensures c.head_of.ensures.extras c.head_of.ensures.written c.text_count.ensures c.copy.ensures c.copy-2.ensures m.comparisons m.warnings m.words
