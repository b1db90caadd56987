use Rattle.line_name.proofs.Laws.{name}
use Rattle.line_name.proofs.name_at.Goals as goal

pub returns-then-start-line : goal.returns-then-start-line
returns-then-start-line c = search name

pub returns : goal.returns
returns c = search name
