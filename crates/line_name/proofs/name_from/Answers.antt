use Rattle.line_name.proofs.Laws.{name}
use Rattle.line_name.proofs.name_from.Goals as goal

pub name_to-requires : goal.name_to-requires
name_to-requires c = search name

pub returns : goal.returns
returns c = search name
