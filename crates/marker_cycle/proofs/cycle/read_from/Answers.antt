use Rattle.marker_cycle.proofs.Whole.{line_slack, line_state, whole_state, counts_nothing}
use Rattle.marker_cycle.proofs.cycle.read_from.Goals as goal

pub finish-requires : goal.finish-requires
finish-requires c = line_slack _ _ _ (line_state _ _ (counts_nothing c.args.sheet.now c.default-sheet.ensures c.requires) c.or_chain-whole.ensures)

pub returns : goal.returns
returns c = whole_state _ _ (counts_nothing c.args.sheet.now c.default-sheet.ensures c.requires) c.or_chain-whole.ensures c.finish.ensures.shown
