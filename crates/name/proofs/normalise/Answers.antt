use Rattle.name.proofs.Laws.{normals}
use Rattle.name.proofs.normalise.Goals as goal

pub returns-then-bad-name-clause-answer : goal.returns-then-bad-name-clause-answer
returns-then-bad-name-clause-answer c = search normals
