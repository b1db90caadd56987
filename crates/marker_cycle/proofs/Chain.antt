-- For the two chains and for every theorem on them: what holds of a chain of items joined by one word at each turn of its loop, for any item. Assumes nothing.
use mathlib.Core.Path.{◌≡◌, refl, sym, ap, ap₂, ◌∙◌}
use mathlib.Core.Bool.{Bool, true, ◌||◌}
use Prim.Native.Nat.{ℕ, zero, suc, ◌+◌, ◌-◌, ◌<◌, ◌≤◌}
use native.Mathlib.Omega.{arith}
use Rattle.marker_cycle.proofs.Emit.{nk, nw, emit_kept, emit_warned, room_after, slack_after}
use Rattle.cursor.specs.Limits.{max_comparisons}
use Rattle.program_check.specs.Rules.{max_words}
use Rattle.marker_steps.specs.Grammar.{Tree, Parsed, got, fault, and_then, Ahead, on, off, more, chain}
use Rattle.marker_steps.specs.Marking.{some}
use Rattle.marker_steps.specs.inner.Steps.{State, Inside, Slack, read, state_of, emit, joining, joined, onward, onward_at}
use Rattle.marker_steps.specs.declared.part.Part.{Part}
use Rattle.marker_store.specs.declared.sheet.Sheet.{Sheet}
use Rattle.std.specs.Prelude.{Option, Some, None, Result, Ok, Err}
use Rattle.cursor.specs.Cursor.{cursor}
use Rattle.cursor.specs.declared.cursor.Cursor.{Cursor}
use Rattle.refusal.specs.declared.fault.Refusal.{Refusal}

-- what is read from at on ends past it and stays within the limits
abbrev pub Sane : ℕ → ℕ → ℕ → Parsed → Type 0
Sane at k w (got t e) = (at < e) × (k + nk t ≤ max_comparisons) × (w + nw t ≤ max_comparisons)
Sane at k w (fault why) = Unit {0}

-- a joint, and what it does
pub record Joins (mk : Tree → Tree → Tree) (v : ℕ) : Type 0 where
  pub keeps : (t u : Tree) → nk (mk t u) ≡ nk t + nk u
  pub warns : (t u : Tree) → nw (mk t u) ≡ nw t + nw u
  pub somes : (t u : Tree) → some (mk t u) ≡ some t || some u
  pub emits : (t u : Tree) (r : Sheet) → emit (mk t u) r ≡ joining (some t) (some u) v (emit u (emit t r))

-- what is left of a line after an answer
abbrev pub togo : ℕ → Result Part Refusal → ℕ
togo n (Ok p) = n - p.next.at + 1
togo n (Err why) = 0

abbrev Enough : ℕ → Parsed → ℕ → Type 0
Enough n (got t e) f = n ≤ f + e
Enough n (fault why) f = Unit {0}

-- whether a part that was read kept anything
abbrev some_in : Result Part Refusal → Bool
some_in (Ok p) = p.some
some_in (Err why) = true

pub same_some : {c d : Cursor} {a b : Bool} → read c a ≡ read d b → a ≡ b
same_some e = ap some_in e

is_on : (a : Ahead) {next : Cursor} {b : Bool} (c : Bool) → Some (next, b) ≡ onward_at a c → (a ≡ on next.at) × (b ≡ c)
is_on (on d) {next} {b} c h =
    let z : ◌≡◌ {A = Cursor × Bool} (next, b) (cursor d, c) = cc in
    (ap (λ (p : Cursor × Bool). on p.0.at) (sym z), ap (λ (p : Cursor × Bool). p.1) z)
is_on off c h = let z : ◌≡◌ {A = ℕ} 0 1 = cc in absurd (omega arith)

is_stop : (a : Ahead) (c : Bool) → None ≡ onward_at a c → a ≡ off
is_stop (on d) c h = let z : ◌≡◌ {A = ℕ} 0 1 = cc in absurd (omega arith)
is_stop off c h = refl

module _ (n : ℕ) (goes : ℕ → Ahead) (mk : Tree → Tree → Tree) (item : ℕ → ℕ → ℕ → Parsed) where
  pub more_stop : (k w f : ℕ) (t : Tree) (e : ℕ) → goes e ≡ off → more goes mk item k w f t e ≡ got t e
  unfolding more
  more_stop k w zero t e h = refl
  more_stop k w (suc f) t e h = rw (h, more)

  pub more_on : (k w f : ℕ) (t : Tree) (e : ℕ) {d : ℕ} → goes e ≡ on d →
      more goes mk item k w (suc f) t e ≡ and_then (item d (k + nk t) (w + nw t)) (λ u d'. more goes mk item k w f (mk t u) d')
  unfolding more
  more_on k w f t e h = rw (h, more)

  -- what holds of the first item, of a fault, and of each joint of what was read with the next item, holds of the chain
  module _ (Q : Parsed → Type 0) (k w : ℕ) (faults : (why : Refusal) → Q (fault why))
      (step : (t : Tree) (e j : ℕ) → Q (got t e) → goes e ≡ on j → (u : Tree) (d : ℕ) → item j (k + nk t) (w + nw t) ≡ got u d → Q (got (mk t u) d)) where
    more_ind : (f : ℕ) (t : Tree) (e : ℕ) → Q (got t e) → Q (more goes mk item k w f t e)
    unfolding more
    more_ind zero t e h = h
    more_ind (suc f) t e h = test (more_ind f) (goes e) refl
      where
        next : ((t : Tree) (e : ℕ) → Q (got t e) → Q (more goes mk item k w f t e)) →
            (j : ℕ) → goes e ≡ on j → (q : Parsed) → item j (k + nk t) (w + nw t) ≡ q → Q (and_then q (λ u d. more goes mk item k w f (mk t u) d))
        next rec j eg (got u d) eq = rec (mk t u) d (step t e j h eg u d eq)
        next rec j eg (fault why) eq = faults why

        test : ((t : Tree) (e : ℕ) → Q (got t e) → Q (more goes mk item k w f t e)) →
            (a : Ahead) → goes e ≡ a → Q (more goes mk item k w (suc f) t e)
        test rec (on j) eg = rw (more_on k w f t e eg) (next rec j eg (item j (k + nk t) (w + nw t)) refl)
        test rec off eg = rw (more_stop k w (suc f) t e eg) h

    pub chain_ind : (at : ℕ) → Q (item at k w) → Q (chain n goes mk item at k w)
    unfolding chain
    chain_ind at h = go (item at k w) h
      where
        go : (q : Parsed) → Q q → Q (and_then q (more goes mk item k w n))
        go (got t e) qt = more_ind n t e qt
        go (fault why) qt = qt

module _ (n : ℕ) (goes : ℕ → Ahead) (v : ℕ) (mk : Tree → Tree → Tree) (item : ℕ → ℕ → ℕ → Parsed)
    (goes-sane : (e d : ℕ) → goes e ≡ on d → (e < d) × (d ≤ n))
    (item_sane : (at k w : ℕ) → k ≤ max_comparisons → w ≤ max_comparisons → Sane at k w (item at k w)) (joins : Joins mk v) where
  -- the whole chain, after r from at on, goes on from what was read up to here
  pub record Going (r : Sheet) (at : ℕ) (left : State) : Type 0 where
    pub p : Parsed
    pub f : ℕ
    pub is : left ≡ state_of p r
    pub on : chain n goes mk item at r.counts.kept r.counts.warned ≡ and_then p (more goes mk item r.counts.kept r.counts.warned f)
    pub sane : Sane at r.counts.kept r.counts.warned p
    pub enough : Enough n p f

  pub going_starts : (r : Sheet) (at : ℕ) (left : State) → Inside r.counts → left ≡ state_of (item at r.counts.kept r.counts.warned) r → Going r at left
  unfolding chain
  going_starts r at left room e = record {
    p = item at r.counts.kept r.counts.warned;
    f = n;
    is = e;
    on = refl;
    sane = item_sane at r.counts.kept r.counts.warned room.kept_fits room.warned_fits;
    enough = start (item at r.counts.kept r.counts.warned);
  }
    where
      start : (p : Parsed) → Enough n p n
      start (got t d) = omega arith
      start (fault why) = tt

  pub going_stops : (r : Sheet) (at : ℕ) (left : State) → Going r at left → None ≡ onward left.part goes →
      left ≡ state_of (chain n goes mk item at r.counts.kept r.counts.warned) r
  unfolding state_of
  going_stops r at left g h = go g.p g.is g.on
    where
      go : (p : Parsed) → left ≡ state_of p r → chain n goes mk item at r.counts.kept r.counts.warned ≡ and_then p (more goes mk item r.counts.kept r.counts.warned g.f) →
          left ≡ state_of (chain n goes mk item at r.counts.kept r.counts.warned) r
      go (got t e) q c = rw (c, more_stop n goes mk item r.counts.kept r.counts.warned g.f t e (is_stop _ _ (rw q at h))) q
      go (fault why) q c = rw c q

  -- a turn: the joint stands there, and the next item is read
  pub record Turn (r : Sheet) (at : ℕ) (left : State) (next : Cursor) (b : Bool) : Type 0 where
    pub t : Tree
    pub e : ℕ
    pub g : ℕ
    pub is : left ≡ state_of (got t e) r
    pub on : chain n goes mk item at r.counts.kept r.counts.warned ≡
        and_then (item next.at (r.counts.kept + nk t) (r.counts.warned + nw t)) (λ u d. more goes mk item r.counts.kept r.counts.warned g (mk t u) d)
    pub sane : Sane at r.counts.kept r.counts.warned (got t e)
    pub enough : n ≤ g + e + 1
    pub there : (e < next.at) × (next.at ≤ n)
    pub had : b ≡ some t

  pub turns : (r : Sheet) (at : ℕ) (left : State) {next : Cursor} {b : Bool} → Going r at left → Some (next, b) ≡ onward left.part goes → Turn r at left next b
  unfolding state_of
  turns r at left {next} {b} g h = go g.p g.f g.is g.on g.sane g.enough
    where
      go : (p : Parsed) (f : ℕ) → left ≡ state_of p r → chain n goes mk item at r.counts.kept r.counts.warned ≡ and_then p (more goes mk item r.counts.kept r.counts.warned f) →
          Sane at r.counts.kept r.counts.warned p → Enough n p f → Turn r at left next b
      go (got t e) zero q c sn en =
          let j = is_on (goes e) (some t) (rw q at h) in
          let l = goes-sane e next.at j.0 in absurd (omega arith)
      go (got t e) (suc f) q c sn en =
          let j = is_on (goes e) (some t) (rw q at h) in
          record {
            t = t;
            e = e;
            g = f;
            is = q;
            on = c ∙ more_on n goes mk item r.counts.kept r.counts.warned f t e j.0;
            sane = sn;
            enough = omega arith;
            there = goes-sane e next.at j.0;
            had = j.1;
          }
      go (fault why) f q c sn en =
          let z : ◌≡◌ {A = Option (Cursor × Bool)} (Some (next, b)) None = rw q at h in
          let y : ◌≡◌ {A = ℕ} 0 1 = cc in absurd (omega arith)

  pub turn_room : (r : Sheet) (at : ℕ) (left : State) {next : Cursor} {b : Bool} → Inside r.counts → Turn r at left next b → Inside left.raw.counts
  unfolding state_of
  turn_room r at left room tn = rw tn.is (room_after tn.t r room tn.sane.1 tn.sane.2)

  turn_right : (r : Sheet) (at : ℕ) (left right : State) {next : Cursor} {b : Bool} (tn : Turn r at left next b) →
      right ≡ state_of (item next.at left.raw.counts.kept left.raw.counts.warned) left.raw →
      right ≡ state_of (item next.at (r.counts.kept + nk tn.t) (r.counts.warned + nw tn.t)) (emit tn.t r)
  unfolding state_of
  turn_right r at left right {next} tn h =
      (rw tn.is at h)
      ∙ ap₂ (λ (x y : ℕ). state_of (item next.at x y) (emit tn.t r)) (emit_kept tn.t r) (emit_warned tn.t r)

  turn_sane : (r : Sheet) (at : ℕ) (left : State) {next : Cursor} {b : Bool} (tn : Turn r at left next b) →
      Sane next.at (r.counts.kept + nk tn.t) (r.counts.warned + nw tn.t) (item next.at (r.counts.kept + nk tn.t) (r.counts.warned + nw tn.t))
  turn_sane r at left tn = item_sane _ _ _ tn.sane.1 tn.sane.2

  pub turn_slack : (r : Sheet) (at : ℕ) (left right : State) {next : Cursor} {b : Bool} → Inside r.counts → Turn r at left next b →
      right ≡ state_of (item next.at left.raw.counts.kept left.raw.counts.warned) left.raw → b ≡ true → Slack true right
  unfolding state_of Slack
  turn_slack r at left right {next} room tn h eb c ec =
      go (item next.at (r.counts.kept + nk tn.t) (r.counts.warned + nw tn.t)) (turn_right r at left right tn h) (turn_sane r at left tn)
    where
      go : (q : Parsed) → right ≡ state_of q (emit tn.t r) → Sane next.at (r.counts.kept + nk tn.t) (r.counts.warned + nw tn.t) q → right.raw.counts.words < max_words
      go (got u d) e sn =
          let z : read (cursor d) (some u) ≡ read c true = rw e at ec in
          rw e (slack_after tn.t u r room sn.1 (sym tn.had ∙ eb) (same_some z))
      go (fault why) e sn =
          let z : Err why ≡ read c true = rw e at ec in
          let y : ◌≡◌ {A = ℕ} 0 1 = cc in absurd (omega arith)

  pub turn_again : (r : Sheet) (at : ℕ) (left right left' : State) {next : Cursor} {b : Bool} → Turn r at left next b →
      right ≡ state_of (item next.at left.raw.counts.kept left.raw.counts.warned) left.raw → left' ≡ joined b right v → Going r at left'
  unfolding state_of joined
  turn_again r at left right left' {next} {b} tn h hj =
      go (item next.at (r.counts.kept + nk tn.t) (r.counts.warned + nw tn.t)) (turn_right r at left right tn h) tn.on (turn_sane r at left tn)
    where
      go : (q : Parsed) → right ≡ state_of q (emit tn.t r) →
          chain n goes mk item at r.counts.kept r.counts.warned ≡ and_then q (λ u d. more goes mk item r.counts.kept r.counts.warned tn.g (mk tn.t u) d) →
          Sane next.at (r.counts.kept + nk tn.t) (r.counts.warned + nw tn.t) q → Going r at left'
      go (got u d) e c sn = record {
        p = got (mk tn.t u) d;
        f = tn.g;
        is = (rw (tn.had, e) at hj) ∙ sym (rw (joins.somes tn.t u, joins.emits tn.t u r));
        on = c;
        sane = (omega (arith, tn.sane.0, tn.there.0, sn.0), omega (arith, sn.1, joins.keeps tn.t u), omega (arith, sn.2, joins.warns tn.t u));
        enough = omega (arith, tn.enough, tn.there.0, sn.0);
      }
      go (fault why) e c sn = record { p = fault why; f = 0; is = rw e at hj; on = c; sane = tt; enough = tt }

  pub turn_less : (r : Sheet) (at : ℕ) (left right left' : State) {next : Cursor} {b : Bool} → Turn r at left next b →
      right ≡ state_of (item next.at left.raw.counts.kept left.raw.counts.warned) left.raw → left' ≡ joined b right v →
      togo n left'.part < togo n left.part
  unfolding state_of joined
  turn_less r at left right left' {next} {b} tn h hj =
      go (item next.at (r.counts.kept + nk tn.t) (r.counts.warned + nw tn.t)) (turn_right r at left right tn h) (turn_sane r at left tn)
    where
      go : (q : Parsed) → right ≡ state_of q (emit tn.t r) →
          Sane next.at (r.counts.kept + nk tn.t) (r.counts.warned + nw tn.t) q → togo n left'.part < togo n left.part
      go (got u d) e sn = rw (hj, e, tn.is) (omega (arith, tn.there.0, tn.there.1, sn.0))
      go (fault why) e sn = rw (hj, e, tn.is) (omega arith)

  pub chain_sane : (at k w : ℕ) → k ≤ max_comparisons → w ≤ max_comparisons → Sane at k w (chain n goes mk item at k w)
  chain_sane at k w hk hw = chain_ind n goes mk item (Sane at k w) k w (λ why. tt) step at (item_sane at k w hk hw)
    where
      step : (t : Tree) (e j : ℕ) → Sane at k w (got t e) → goes e ≡ on j → (u : Tree) (d : ℕ) → item j (k + nk t) (w + nw t) ≡ got u d → Sane at k w (got (mk t u) d)
      step t e j sn eg u d eq =
          let sq : Sane j (k + nk t) (w + nw t) (got u d) = rw eq at (item_sane j (k + nk t) (w + nw t) sn.1 sn.2) in
          (omega (arith, sn.0, sq.0, (goes-sane e j eg).0), omega (arith, sq.1, joins.keeps t u), omega (arith, sq.2, joins.warns t u))
