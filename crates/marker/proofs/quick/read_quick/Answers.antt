use Rattle.marker.proofs.Doors.{bad_answer, refused_told}
use Rattle.marker.proofs.Quickly.{refused_comps, refused_warns, refused_words}
use Rattle.marker.specs.Answer.{counts_of}
use Rattle.std.proofs.lemmas.Result.{err_from_is_err_and}
use Rattle.marker.proofs.quick.read_quick.Goals as goal

pub returns-in_err-check_line : goal.returns-in_err-check_line
returns-in_err-check_line c =
    let bad = bad_answer c.args.line.now _ c.check_line.ensures c.in_err-check_line.was in
    let p = err_from_is_err_and c.from_residual.result c.from_residual.ensures.1 in
    record { answer = rw (p.1, p.2) (refused_told counts_of _ _ bad); comparisons = refused_comps _ _ bad _; warnings = refused_warns _ _ bad _; words = refused_words _ _ bad _ }
