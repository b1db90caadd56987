use Rattle.std.proofs.Common.{ap, ◌∙◌}
use Rattle.std.proofs.lemmas.Result.{err_from_is_err_and}
use Rattle.marker.proofs.Doors.{marker_refused, refused_told}
use Rattle.marker_typed.specs.Lists.{lists_of}
use Rattle.marker_cycle.proofs.Whole.{blank_nothing, fits_of}
use Rattle.marker_typed.proofs.Gathers.{gathered_answer}
use Rattle.refusal.specs.Answer.{good}
use Rattle.marker_typed.proofs.door.read_marker_from.Goals as goal

pub read_from-requires : goal.read_from-requires
read_from-requires c = blank_nothing _ c.blank-sheet.ensures

pub gather-requires : goal.gather-requires
gather-requires c = fits_of _ _ _ _ c.in_ok-read_from.ensures

pub returns-in_err-read_from : goal.returns-in_err-read_from
returns-in_err-read_from c =
    let p = err_from_is_err_and c.from_residual.result c.from_residual.ensures.1 in
    rw (p.1, p.2) (refused_told lists_of _ _ (marker_refused _ _ _ c.in_err-read_from.ensures))

pub returns : goal.returns
returns c = ap good c.gather.ensures ∙ gathered_answer _ _ _ _ c.in_ok-read_from.ensures
