use native.Mathlib.Omega.{arith}
use Rattle.marker.specs.Answer.{counts_of}
use Rattle.marker.proofs.Doors.{marker_refused, refused_told}
use Rattle.marker.proofs.Quickly.{marks_of, kept_room, warned_room, words_room, comps_copied, warns_copied, words_copied, counted, refused_comps, refused_warns, refused_words}
use Rattle.marker_cycle.proofs.Whole.{blank_nothing}
use Rattle.std.proofs.lemmas.Result.{err_from_is_err_and}
use Rattle.marker.proofs.quick.read_quick_from.Goals as goal

pub read_from-requires : goal.read_from-requires
read_from-requires c = blank_nothing _ c.blank-sheet.ensures

pub overflow_mul-counts : goal.overflow_mul-counts
overflow_mul-counts c =
    let marks = marks_of _ _ _ _ c.in_ok-read_from.ensures in
    let room = kept_room _ _ _ marks in omega arith

pub copy_front-requires : goal.copy_front-requires
copy_front-requires c =
    let marks = marks_of _ _ _ _ c.in_ok-read_from.ensures in
    let room = kept_room _ _ _ marks in (omega arith, omega arith)

pub overflow_mul-counts-2 : goal.overflow_mul-counts-2
overflow_mul-counts-2 c =
    let marks = marks_of _ _ _ _ c.in_ok-read_from.ensures in
    let room = warned_room _ _ _ marks in omega arith

pub copy_front-requires-2 : goal.copy_front-requires-2
copy_front-requires-2 c =
    let marks = marks_of _ _ _ _ c.in_ok-read_from.ensures in
    let room = warned_room _ _ _ marks in (omega arith, omega arith)

pub copy_front-requires-3 : goal.copy_front-requires-3
copy_front-requires-3 c =
    let marks = marks_of _ _ _ _ c.in_ok-read_from.ensures in
    let room = words_room _ _ _ marks in (omega arith, omega arith)

pub returns-in_err-read_from : goal.returns-in_err-read_from
returns-in_err-read_from c =
    let bad = marker_refused _ _ _ c.in_err-read_from.ensures in
    let p = err_from_is_err_and c.from_residual.result c.from_residual.ensures.1 in
    record { answer = rw (p.1, p.2) (refused_told counts_of _ _ bad); comparisons = refused_comps _ _ bad _; warnings = refused_warns _ _ bad _; words = refused_words _ _ bad _ }

pub returns : goal.returns
returns c =
    let marks = marks_of _ _ _ _ c.in_ok-read_from.ensures in
    record {
      answer = counted _ _ _ marks;
      comparisons = comps_copied _ _ _ marks _ c.copy_front.ensures;
      warnings = warns_copied _ _ _ marks _ c.copy_front-2.ensures;
      words = words_copied _ _ _ marks _ c.copy_front-3.ensures;
    }
