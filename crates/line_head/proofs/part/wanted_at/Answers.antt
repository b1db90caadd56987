use Rattle.cursor.proofs.Passed.{told_at_passed}
use Rattle.line_head.proofs.Laws.{texts, url_read, url_refused, list_read, list_refused, wanted_url, wanted_list}
use Rattle.line_head.proofs.part.wanted_at.Goals as goal

-- behind an `@`
pub returns-in_err-url-clause-answer : goal.returns-in_err-url-clause-answer
returns-in_err-url-clause-answer c =
    told_at_passed _ _ _ c.from_residual.ensures.1 (wanted_url _ _ _ c.has.ensures _ c.if-has.true (url_refused _ _ c.in_err-url.ensures))

pub returns-in_err-url-clause-written : goal.returns-in_err-url-clause-written
returns-in_err-url-clause-written c = search texts

pub returns-then-has-clause-answer : goal.returns-then-has-clause-answer
returns-then-has-clause-answer c = wanted_url _ _ _ c.has.ensures _ c.if-has.true (url_read _ _ _ c.in_ok-url.ensures)

pub returns-then-has-clause-written : goal.returns-then-has-clause-written
returns-then-has-clause-written c = search texts

-- where none stands
pub returns-in_err-n-clause-answer : goal.returns-in_err-n-clause-answer
returns-in_err-n-clause-answer c =
    told_at_passed _ _ _ c.from_residual-in_err-n.ensures.1 (wanted_list _ _ _ c.has.ensures _ c.if-has.false (list_refused _ _ c.in_err-n.ensures.answer))

pub returns-in_err-n-clause-written : goal.returns-in_err-n-clause-written
returns-in_err-n-clause-written c = search texts

pub returns-clause-answer : goal.returns-clause-answer
returns-clause-answer c = wanted_list _ _ _ c.has.ensures _ c.if-has.false (list_read _ _ _ c.in_ok-n.ensures.answer)

pub returns-clause-written : goal.returns-clause-written
returns-clause-written c = search texts
