use Rattle.cursor.proofs.Passed.{told_passed}
use Rattle.line_head.proofs.Laws.{name_refused, no_extras, no_texts, extras_written, extras_refused, texts_refused, texts_written, wanted_refused, tail_refused, head_good}
use Rattle.line_head.proofs.head.head_of.Goals as goal

-- no name
pub returns-in_err-name-clause-answer : goal.returns-in_err-name-clause-answer
returns-in_err-name-clause-answer c = told_passed _ _ _ c.from_residual.ensures.1 (name_refused _ _ c.in_err-name.ensures)

pub returns-in_err-name-clause-extras : goal.returns-in_err-name-clause-extras
returns-in_err-name-clause-extras c = no_extras _ _ c.in_err-name.ensures _

pub returns-in_err-name-clause-written : goal.returns-in_err-name-clause-written
returns-in_err-name-clause-written c = no_texts _ _ c.in_err-name.ensures _

-- the extras behind it are refused
pub returns-in_err-extras-clause-answer : goal.returns-in_err-extras-clause-answer
returns-in_err-extras-clause-answer c =
    told_passed _ _ _ c.from_residual-in_err-extras.ensures.1 (extras_refused _ _ _ c.in_ok-name.ensures _ c.skip_whitespace.ensures _ c.in_err-extras.ensures.answer)

pub returns-in_err-extras-clause-extras : goal.returns-in_err-extras-clause-extras
returns-in_err-extras-clause-extras c = extras_written _ _ _ c.in_ok-name.ensures _ c.skip_whitespace.ensures _ _ c.extras_at.ensures.written

pub returns-in_err-extras-clause-written : goal.returns-in_err-extras-clause-written
returns-in_err-extras-clause-written c = texts_refused _ _ _ c.in_ok-name.ensures _ c.skip_whitespace.ensures _ c.in_err-extras.ensures.answer _

-- what is wanted behind these is refused
pub returns-in_err-wanted-clause-answer : goal.returns-in_err-wanted-clause-answer
returns-in_err-wanted-clause-answer c =
    told_passed _ _ _ c.from_residual-in_err-wanted.ensures.1
    (wanted_refused _ _ _ c.in_ok-name.ensures _ c.skip_whitespace.ensures _ _ c.in_ok-extras.ensures.answer _ c.skip_whitespace-2.ensures _ c.in_err-wanted.ensures.answer)

pub returns-in_err-wanted-clause-extras : goal.returns-in_err-wanted-clause-extras
returns-in_err-wanted-clause-extras c = extras_written _ _ _ c.in_ok-name.ensures _ c.skip_whitespace.ensures _ _ c.extras_at.ensures.written

pub returns-in_err-wanted-clause-written : goal.returns-in_err-wanted-clause-written
returns-in_err-wanted-clause-written c =
    texts_written _ _ _ c.in_ok-name.ensures _ c.skip_whitespace.ensures _ _ c.in_ok-extras.ensures.answer _ c.skip_whitespace-2.ensures _ _ c.wanted_at.ensures.written

-- the line goes on
pub returns-in_err-marker-clause-answer : goal.returns-in_err-marker-clause-answer
returns-in_err-marker-clause-answer c =
    told_passed _ _ _ c.from_residual-in_err-marker.ensures.1
    (tail_refused _ _ _ c.in_ok-name.ensures _ c.skip_whitespace.ensures _ _ c.in_ok-extras.ensures.answer _ c.skip_whitespace-2.ensures _ _ _ c.in_ok-wanted.ensures.answer c.skip_whitespace-3.ensures _ c.in_err-marker.ensures)

pub returns-in_err-marker-clause-extras : goal.returns-in_err-marker-clause-extras
returns-in_err-marker-clause-extras c = extras_written _ _ _ c.in_ok-name.ensures _ c.skip_whitespace.ensures _ _ c.extras_at.ensures.written

pub returns-in_err-marker-clause-written : goal.returns-in_err-marker-clause-written
returns-in_err-marker-clause-written c =
    texts_written _ _ _ c.in_ok-name.ensures _ c.skip_whitespace.ensures _ _ c.in_ok-extras.ensures.answer _ c.skip_whitespace-2.ensures _ _ c.wanted_at.ensures.written

-- all parts
pub returns-clause-answer : goal.returns-clause-answer
returns-clause-answer c =
    head_good _ _ _ c.in_ok-name.ensures _ c.skip_whitespace.ensures _ _ c.in_ok-extras.ensures.answer _ c.skip_whitespace-2.ensures _ _ _ c.in_ok-wanted.ensures.answer c.skip_whitespace-3.ensures _ c.in_ok-marker.ensures

pub returns-clause-extras : goal.returns-clause-extras
returns-clause-extras c = extras_written _ _ _ c.in_ok-name.ensures _ c.skip_whitespace.ensures _ _ c.extras_at.ensures.written

pub returns-clause-written : goal.returns-clause-written
returns-clause-written c =
    texts_written _ _ _ c.in_ok-name.ensures _ c.skip_whitespace.ensures _ _ c.in_ok-extras.ensures.answer _ c.skip_whitespace-2.ensures _ _ c.wanted_at.ensures.written
