use Rattle.line_specifiers.proofs.Laws.{listing}
use Rattle.line_specifiers.proofs.specifiers.bare_at.Goals as goal

pub returns-then-is_operator_byte-clause-answer : goal.returns-then-is_operator_byte-clause-answer
returns-then-is_operator_byte-clause-answer c = search listing

pub returns-clause-answer : goal.returns-clause-answer
returns-clause-answer c = search listing

pub returns-clause-written : goal.returns-clause-written
returns-clause-written c = search listing

pub returns-then-is_operator_byte-clause-written :
    goal.returns-then-is_operator_byte-clause-written
returns-then-is_operator_byte-clause-written c = search listing
