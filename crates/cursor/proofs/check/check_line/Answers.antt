use Rattle.cursor.proofs.Laws.{scan}
use Rattle.cursor.proofs.check.check_line.Goals as goal

pub returns-then-line-gt-MAX_LINE : goal.returns-then-line-gt-MAX_LINE
returns-then-line-gt-MAX_LINE c = search scan

pub returns-then-end-line : goal.returns-then-end-line
returns-then-end-line c = search scan
