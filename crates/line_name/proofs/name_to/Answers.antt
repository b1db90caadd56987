use Rattle.line_name.proofs.Laws.{name}
use Rattle.line_name.proofs.name_to.Goals as goal

pub returns-then-separator_before : goal.returns-then-separator_before
returns-then-separator_before c = search name
