use Rattle.line_specifiers.proofs.Laws.{listing}
use Rattle.line_specifiers.proofs.specifiers.specifiers_at.Goals as goal

pub list_from-requires : goal.list_from-requires
list_from-requires c = search listing

pub returns-then-has-clause-answer : goal.returns-then-has-clause-answer
returns-then-has-clause-answer c = search listing

pub returns-then-has-clause-written : goal.returns-then-has-clause-written
returns-then-has-clause-written c = search listing

pub returns-clause-answer : goal.returns-clause-answer
returns-clause-answer c = search listing

pub returns-clause-written : goal.returns-clause-written
returns-clause-written c = search listing
