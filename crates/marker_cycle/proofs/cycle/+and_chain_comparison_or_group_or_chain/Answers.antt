-- Each loop goes on from its left side (`Going`). Assumes nothing.
use native.Mathlib.Omega.{arith}
use Rattle.std.proofs.Common.{sym, ap, ◌∙◌}
use Rattle.marker_cycle.proofs.Chain.{going_starts, going_stops, turns, turn_room, turn_slack, turn_again, turn_less}
use Rattle.marker_cycle.proofs.Items.{item_group, item_found, group_deep, group_state}
use Rattle.marker_steps.proofs.Laws.{right_of, inside_of}
use Rattle.marker_steps.specs.Grammar.{and_of, or_of, item_of, group_at}
use Rattle.marker_steps.specs.inner.Steps.{stopped, state_of}
use Rattle.marker_cycle.proofs.cycle.+and_chain_comparison_or_group_or_chain.Goals as goal

pub and_chain-loop-next-init : goal.and_chain-loop-next-init
unfolding and_of
and_chain-loop-next-init t c = going_starts _ _ _ _ _ _ _ _ _ _ _ c.requires c.comparison_or_group-left.ensures

pub and_chain-returns : goal.and_chain-returns
unfolding and_of
and_chain-returns t c = going_stops _ _ _ _ _ _ _ _ _ _ _ c.loop-next.invariant c.in_default.ensures

pub and_chain-comparison_or_group-right-requires : goal.and_chain-comparison_or_group-right-requires
and_chain-comparison_or_group-right-requires t c =
    let turn = turns _ _ _ _ _ _ _ _ _ _ _ c.loop-next.invariant c.in-Some.ensures in
    (omega (arith, c.decreases), inside_of _ _ _ c.in-Some.ensures (turn_room _ _ _ _ _ _ _ _ _ _ _ c.requires turn))

pub and_chain-join-left-requires : goal.and_chain-join-left-requires
and_chain-join-left-requires t c =
    let turn = turns _ _ _ _ _ _ _ _ _ _ _ c.loop-next.invariant c.in-Some.ensures in
    turn_slack _ _ _ _ _ _ _ _ _ _ _ _ c.requires turn (right_of _ _ _ (item_of c.args.line.now (group_at c.args.line.now c.args.depth)) c.in-Some.ensures c.comparison_or_group-right.ensures)

pub and_chain-loop-next-smaller : goal.and_chain-loop-next-smaller
and_chain-loop-next-smaller t c =
    let turn = turns _ _ _ _ _ _ _ _ _ _ _ c.loop-next.invariant c.in-Some.ensures in
    turn_less _ _ _ _ _ _ _ _ _ _ _ _ _ turn (right_of _ _ _ (item_of c.args.line.now (group_at c.args.line.now c.args.depth)) c.in-Some.ensures c.comparison_or_group-right.ensures) c.join-left.ensures.shown

pub and_chain-loop-next-preserved : goal.and_chain-loop-next-preserved
and_chain-loop-next-preserved t c =
    let turn = turns _ _ _ _ _ _ _ _ _ _ _ c.loop-next.invariant c.in-Some.ensures in
    turn_again _ _ _ _ _ _ _ _ _ _ _ _ _ turn (right_of _ _ _ (item_of c.args.line.now (group_at c.args.line.now c.args.depth)) c.in-Some.ensures c.comparison_or_group-right.ensures) c.join-left.ensures.shown

pub comparison_or_group-returns-then-not-has : goal.comparison_or_group-returns-then-not-has
comparison_or_group-returns-then-not-has t c =
    rw (item_found _ _ _ _ _ c.skip_whitespace-here.ensures c.has.ensures c.if-not-has.true, ← c.find.ensures) c.take_in.ensures.shown

pub comparison_or_group-returns-then-depth-eq0 : goal.comparison_or_group-returns-then-depth-eq0
unfolding state_of
comparison_or_group-returns-then-depth-eq0 t c =
    ap stopped c.new.ensures
    ∙ sym (rw (item_group _ _ _ _ _ c.skip_whitespace-here.ensures c.has.ensures c.if-not-has.false, group_deep _ _ _ _ _ c.if-depth-eq0.true))

pub comparison_or_group-returns : goal.comparison_or_group-returns
comparison_or_group-returns t c =
    group_state _ _ _ _ _ _ c.skip_whitespace-here.ensures c.has.ensures c.if-not-has.false c.if-depth-eq0.false
    c.or_chain.ensures (c.close.ensures _)

pub or_chain-loop-next-init : goal.or_chain-loop-next-init
unfolding or_of
or_chain-loop-next-init t c = going_starts _ _ _ _ _ _ _ _ _ _ _ c.requires c.and_chain-left.ensures

pub or_chain-returns : goal.or_chain-returns
unfolding or_of
or_chain-returns t c = going_stops _ _ _ _ _ _ _ _ _ _ _ c.loop-next.invariant c.in_default.ensures

pub or_chain-and_chain-right-requires : goal.or_chain-and_chain-right-requires
or_chain-and_chain-right-requires t c =
    let turn = turns _ _ _ _ _ _ _ _ _ _ _ c.loop-next.invariant c.in-Some.ensures in
    (omega (arith, c.decreases), inside_of _ _ _ c.in-Some.ensures (turn_room _ _ _ _ _ _ _ _ _ _ _ c.requires turn))

pub or_chain-join-left-requires : goal.or_chain-join-left-requires
or_chain-join-left-requires t c =
    let turn = turns _ _ _ _ _ _ _ _ _ _ _ c.loop-next.invariant c.in-Some.ensures in
    turn_slack _ _ _ _ _ _ _ _ _ _ _ _ c.requires turn (right_of _ _ _ (and_of c.args.line.now (group_at c.args.line.now c.args.depth)) c.in-Some.ensures c.and_chain-right.ensures)

pub or_chain-loop-next-smaller : goal.or_chain-loop-next-smaller
or_chain-loop-next-smaller t c =
    let turn = turns _ _ _ _ _ _ _ _ _ _ _ c.loop-next.invariant c.in-Some.ensures in
    turn_less _ _ _ _ _ _ _ _ _ _ _ _ _ turn (right_of _ _ _ (and_of c.args.line.now (group_at c.args.line.now c.args.depth)) c.in-Some.ensures c.and_chain-right.ensures) c.join-left.ensures.shown

pub or_chain-loop-next-preserved : goal.or_chain-loop-next-preserved
or_chain-loop-next-preserved t c =
    let turn = turns _ _ _ _ _ _ _ _ _ _ _ c.loop-next.invariant c.in-Some.ensures in
    turn_again _ _ _ _ _ _ _ _ _ _ _ _ _ turn (right_of _ _ _ (and_of c.args.line.now (group_at c.args.line.now c.args.depth)) c.in-Some.ensures c.and_chain-right.ensures) c.join-left.ensures.shown
