use Rattle.std.proofs.lemmas.Result.{err_from_is_err_and}
use Rattle.marker.proofs.Doors.{bad_answer, refused_told}
use Rattle.marker_typed.specs.Lists.{lists_of}
use Rattle.marker_typed.proofs.door.read_marker.Goals as goal

pub returns-in_err-check_line : goal.returns-in_err-check_line
returns-in_err-check_line c =
    let p = err_from_is_err_and c.from_residual.result c.from_residual.ensures.1 in
    rw (p.1, p.2) (refused_told lists_of _ _ (bad_answer c.args.line.now _ c.check_line.ensures c.in_err-check_line.was))
