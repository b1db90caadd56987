use Rattle.std.proofs.Common.{rules}
use Rattle.line_extras.proofs.Laws.{listing}
use Rattle.line_extras.specs.Extra.{item_at}
use Rattle.line_extras.proofs.extras.extras_at.Goals as goal

-- the list of the items that the closure says
pub returns-then-has-clause-answer : goal.returns-then-has-clause-answer
returns-then-has-clause-answer c =
    let read = c.read_list.ensures.answer (item_at c.args.line.now c.args.at) (λ fresh at r made. search rules) in
    search listing

pub returns-then-has-clause-written : goal.returns-then-has-clause-written
returns-then-has-clause-written c =
    let read = c.read_list.ensures.written (item_at c.args.line.now c.args.at) (λ fresh at r made. search rules) in
    search listing

-- no bracket, no list
pub returns-clause-answer : goal.returns-clause-answer
returns-clause-answer c = search listing

pub returns-clause-written : goal.returns-clause-written
returns-clause-written c = search listing
