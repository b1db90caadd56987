-- The remaining depth falls at each parenthesis, and else a rank of the function. Each loop goes on from its left side (`Going`). Assumes nothing.
use native.Mathlib.Omega.{arith}
use Rattle.std.proofs.Common.{◌+◌, ◌*◌, length}
use Rattle.marker_cycle.proofs.Chain.{Going, togo}
use Rattle.marker_cycle.proofs.Items.{joins_both, joins_either, word_sane, item_sane, and_sane, group_sane}
use Rattle.marker_steps.specs.Grammar.{both, either, word_ahead, and_word, or_word, item_of, and_of, group_at}
use Rattle.marker_steps.specs.inner.Steps.{shows}
use Rattle.marker_cycle.proofs.cycle.+and_chain_comparison_or_group_or_chain.Given as goal

abbrev pub decreases-and_chain : goal.decreases-and_chain
decreases-and_chain l = 3 * l.depth + 1

abbrev pub decreases-comparison_or_group : goal.decreases-comparison_or_group
decreases-comparison_or_group l = 3 * l.depth

abbrev pub decreases-or_chain : goal.decreases-or_chain
decreases-or_chain l = 3 * l.depth + 2

abbrev pub invariant-and_chain-loop-next : goal.invariant-and_chain-loop-next
invariant-and_chain-loop-next l =
    Going (length l.line) (word_ahead and_word l.line) 64 both (item_of l.line (group_at l.line l.depth)) (word_sane and_word l.line (omega arith)) (item_sane l.line (group_at l.line l.depth) (group_sane l.line l.depth)) joins_both
    l.fn.sheet l.fn.from.at (shows l.left l.sheet)

abbrev pub decreases-and_chain-loop-next : goal.decreases-and_chain-loop-next
decreases-and_chain-loop-next l = togo (length l.line) l.left

abbrev pub invariant-or_chain-loop-next : goal.invariant-or_chain-loop-next
invariant-or_chain-loop-next l =
    Going (length l.line) (word_ahead or_word l.line) 65 either (and_of l.line (group_at l.line l.depth)) (word_sane or_word l.line (omega arith)) (and_sane l.line (group_at l.line l.depth) (group_sane l.line l.depth)) joins_either
    l.fn.sheet l.fn.from.at (shows l.left l.sheet)

abbrev pub decreases-or_chain-loop-next : goal.decreases-or_chain-loop-next
decreases-or_chain-loop-next l = togo (length l.line) l.left
