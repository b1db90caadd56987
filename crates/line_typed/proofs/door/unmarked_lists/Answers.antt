use Rattle.marker_typed.specs.Lists.{lists_of}
use Rattle.line_typed.proofs.door.unmarked_lists.Goals as goal

pub returns : goal.returns
unfolding lists_of
returns c = rw c.empty_lists-lists.ensures
