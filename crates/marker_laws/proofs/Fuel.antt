-- The bound on the joints of a chain never shows: a chain ends only where no joining word is ahead, and any greater bound gives the same parse.
-- Assumes nothing.
use Prim.Native.Char.{code}
use Prim.Native.Nat.{ℕ, zero, suc, ◌+◌, ◌<◌, ◌≤◌}
use mathlib.Core.List.{List}
use mathlib.Core.Path.{◌≡◌, refl, sym, ap, ◌∙◌}
use native.Mathlib.Omega.{arith}
use lib.Dec.{ltb, eqb}
use lib.ListN.{length}
use Rattle.refusal.specs.declared.fault.Refusal.{Refusal}
use Rattle.std.specs.Prelude.{Result, Ok, Err}
use Rattle.marker_verdict.proofs.Further.{found_further}
use Rattle.marker_verdict.specs.Found.{found_at}
use Rattle.marker_verdict.specs.declared.found.Found.{Found}
use Rattle.marker_laws.specs.inner.Fuel.{and_by, or_by, group_by, parse_by}
use Rattle.marker_cycle.proofs.Chain.{more_stop, more_on, chain_ind}
use Rattle.marker_cycle.proofs.Emit.{nk, nw}
use Rattle.marker_cycle.proofs.Items.{by_test, word_sane, item_ind}
use Rattle.marker_steps.specs.Grammar.{Tree, both, either, kept_in, warned_in, Parsed, got, fault, and_then, settled, settle, Ahead, on, off, word_ahead, and_word, or_word, more, chain, item_of, and_of, or_of, closed, group_at, ending, parse_from}
use Rattle.text.proofs.Reach.{skip_from}
use Rattle.text.specs.Class.{is_space}
use Rattle.text.specs.Scan.{skip, byte_at}

-- what is read from a place on ends past it
abbrev Past : ℕ → Parsed → Type 0
Past at (got t e) = at < e
Past at (fault why) = Unit {0}

abbrev Pasts : (ℕ → ℕ → ℕ → Parsed) → Type 0
Pasts item = (at k w : ℕ) → Past at (item at k w)

past_from : (at p : ℕ) (q : Parsed) → at ≤ p → Past p q → Past at q
past_from at p (got t e) h l = omega arith
past_from at p (fault why) h l = tt

settle_past : (s : List ℕ) (at k w : ℕ) → Past at (settle (found_at s at) k w)
unfolding settle settled
settle_past s at k w = go (found_at s at) refl
  where
    go : (f : Result Found Refusal) → found_at s at ≡ f → Past at (settle f k w)
    go (Ok f) e =
        by_test (Past at) (ltb 64 (w + length (warned_in f.verdict f.span))) _ _ (λ _. tt)
        (λ _. by_test (Past at) (ltb 64 (k + length (kept_in f.verdict))) _ _ (λ _. tt) (λ _. (found_further s at f.verdict f.span f.next e).behind))
    go (Err why) e = tt

item_past : (s : List ℕ) (inner : ℕ → ℕ → ℕ → Parsed) → Pasts inner → Pasts (item_of s inner)
item_past s inner h at k w =
    let p = skip is_space s at in
    item_ind s inner (Past at) at k w
    (past_from at p (inner p k w) (skip_from is_space s at) (h p k w))
    (past_from at p (settle (found_at s p) k w) (skip_from is_space s at) (settle_past s p k w))

-- a chain over n bytes whose joints and items go on
module _ (n : ℕ) (goes : ℕ → Ahead) (mk : Tree → Tree → Tree) (item : ℕ → ℕ → ℕ → Parsed)
    (ahead : (e d : ℕ) → goes e ≡ on d → (e < d) × (d ≤ n)) (items : Pasts item) where
  chain_past : (f : ℕ) → Pasts (chain f goes mk item)
  chain_past f at k w = chain_ind f goes mk item (Past at) k w (λ why. tt) step at (items at k w)
    where
      step : (t : Tree) (e j : ℕ) → Past at (got t e) → goes e ≡ on j → (u : Tree) (d : ℕ) → item j (k + nk t) (w + nw t) ≡ got u d → Past at (got (mk t u) d)
      step t e j l eg u d eq = let q : j < d = rw eq at (items j (k + nk t) (w + nw t)) in omega (arith, (ahead e j eg).0)

  module _ (k w : ℕ) where
    abbrev Alike : ℕ → ℕ → Type 0
    Alike f g = (t : Tree) (e : ℕ) → n ≤ f + e → n ≤ g + e → more goes mk item k w f t e ≡ more goes mk item k w g t e

    -- one joint more, with as much of each bound left as is needed
    on_alike : (f g : ℕ) → Alike f g → (t : Tree) (e d : ℕ) → goes e ≡ on d → n ≤ suc f + e → n ≤ suc g + e → more goes mk item k w (suc f) t e ≡ more goes mk item k w (suc g) t e
    on_alike f g again t e d eg h j =
        rw (more_on f goes mk item k w f t e eg, more_on g goes mk item k w g t e eg) (go (item d (k + nk t) (w + nw t)) refl)
      where
        go : (q : Parsed) → item d (k + nk t) (w + nw t) ≡ q → and_then q (λ u d'. more goes mk item k w f (mk t u) d') ≡ and_then q (λ u d'. more goes mk item k w g (mk t u) d')
        go (got u d') eq =
            let l : d < d' = rw eq at (items d (k + nk t) (w + nw t)) in
            again (mk t u) d' (omega (arith, (ahead e d eg).0)) (omega (arith, (ahead e d eg).0))
        go (fault why) eq = refl

    more_alike : (f g : ℕ) → Alike f g
    more_alike zero g t e h j = go (goes e) refl
      where
        go : (a : Ahead) → goes e ≡ a → more goes mk item k w zero t e ≡ more goes mk item k w g t e
        go (on d) eg = absurd (omega (arith, (ahead e d eg).0, (ahead e d eg).1))
        go off eg = more_stop n goes mk item k w zero t e eg ∙ sym (more_stop n goes mk item k w g t e eg)
    more_alike (suc f) zero t e h j = go (goes e) refl
      where
        go : (a : Ahead) → goes e ≡ a → more goes mk item k w (suc f) t e ≡ more goes mk item k w zero t e
        go (on d) eg = absurd (omega (arith, (ahead e d eg).0, (ahead e d eg).1))
        go off eg = more_stop n goes mk item k w (suc f) t e eg ∙ sym (more_stop n goes mk item k w zero t e eg)
    more_alike (suc f) (suc g) t e h j = go (more_alike f g) (goes e) refl
      where
        go : Alike f g → (a : Ahead) → goes e ≡ a → more goes mk item k w (suc f) t e ≡ more goes mk item k w (suc g) t e
        go again (on d) eg = on_alike f g again t e d eg h j
        go again off eg = more_stop n goes mk item k w (suc f) t e eg ∙ sym (more_stop n goes mk item k w (suc g) t e eg)

  chain_alike : (f at k w : ℕ) → n ≤ f → chain f goes mk item at k w ≡ chain n goes mk item at k w
  unfolding chain
  chain_alike f at k w h = go (item at k w)
    where
      go : (q : Parsed) → and_then q (more goes mk item k w f) ≡ and_then q (more goes mk item k w n)
      go (got t e) = more_alike k w f n t e (omega arith) (omega arith)
      go (fault why) = refl

  -- where it ends, nothing is ahead
  abbrev Stops : Parsed → Type 0
  Stops (got t e) = goes e ≡ off
  Stops (fault why) = Unit {0}

  more_stops : (k w f : ℕ) (t : Tree) (e : ℕ) → n ≤ f + e → Stops (more goes mk item k w f t e)
  more_stops k w zero t e h = go (goes e) refl
    where
      go : (a : Ahead) → goes e ≡ a → Stops (more goes mk item k w zero t e)
      go (on d) eg = absurd (omega (arith, (ahead e d eg).0, (ahead e d eg).1))
      go off eg = rw (more_stop n goes mk item k w zero t e eg) eg
  more_stops k w (suc f) t e h = go (more_stops k w f) (goes e) refl
    where
      next : ((t : Tree) (e : ℕ) → n ≤ f + e → Stops (more goes mk item k w f t e)) → (d : ℕ) → goes e ≡ on d → (q : Parsed) → item d (k + nk t) (w + nw t) ≡ q → Stops (and_then q (λ u d'. more goes mk item k w f (mk t u) d'))
      next again d eg (got u d') eq =
          let l : d < d' = rw eq at (items d (k + nk t) (w + nw t)) in
          again (mk t u) d' (omega (arith, (ahead e d eg).0))
      next again d eg (fault why) eq = tt

      go : ((t : Tree) (e : ℕ) → n ≤ f + e → Stops (more goes mk item k w f t e)) → (a : Ahead) → goes e ≡ a → Stops (more goes mk item k w (suc f) t e)
      go again (on d) eg = rw (more_on f goes mk item k w f t e eg) (next again d eg (item d (k + nk t) (w + nw t)) refl)
      go again off eg = rw (more_stop n goes mk item k w (suc f) t e eg) eg

  chain_stops : (at k w : ℕ) → Stops (chain n goes mk item at k w)
  unfolding chain
  chain_stops at k w = go (item at k w)
    where
      go : (q : Parsed) → Stops (and_then q (more goes mk item k w n))
      go (got t e) = more_stops k w n t e (omega arith)
      go (fault why) = tt

module _ (s : List ℕ) (inner : ℕ → ℕ → ℕ → Parsed) (h : Pasts inner) where
  and_past : Pasts (and_of s inner)
  unfolding and_of
  and_past = chain_past (length s) (word_ahead and_word s) both (item_of s inner) (word_sane and_word s (omega arith)) (item_past s inner h) (length s)

  or_past : Pasts (or_of s inner)
  unfolding or_of
  or_past = chain_past (length s) (word_ahead or_word s) either (and_of s inner) (word_sane or_word s (omega arith)) and_past (length s)

  or_alike : (f at k w : ℕ) → length s ≤ f → or_by f s inner at k w ≡ or_of s inner at k w
  unfolding and_of or_of
  or_alike f at k w l =
      let same : and_by f s inner ≡ and_of s inner =
      λ i a b c. chain_alike (length s) (word_ahead and_word s) both (item_of s inner) (word_sane and_word s (omega arith)) (item_past s inner h) f a b c l i in
      ap (λ (item : ℕ → ℕ → ℕ → Parsed). chain f (word_ahead or_word s) either item at k w) same
      ∙ chain_alike (length s) (word_ahead or_word s) either (and_of s inner) (word_sane or_word s (omega arith)) and_past f at k w l

closed_past : (s : List ℕ) (at : ℕ) (p : Parsed) → Past (at + 1) p → Past at (closed s at p)
unfolding closed
closed_past s at (got t e) l =
    let d = skip is_space s e in
    by_test (Past at) (eqb (byte_at s d) (code ")")) _ _ (λ _. omega (arith, skip_from is_space s e)) (λ _. by_test (Past at) (ltb d (length s)) _ _ (λ _. tt) (λ _. tt))
closed_past s at (fault why) l = tt

group_past : (s : List ℕ) (d : ℕ) → Pasts (group_at s d)
unfolding group_at
group_past s zero at k w = tt
group_past s (suc d) at k w = closed_past s at (or_of s (group_at s d) (at + 1) k w) (or_past s (group_at s d) (group_past s d) (at + 1) k w)

group_alike : (s : List ℕ) (f : ℕ) → length s ≤ f → (d : ℕ) → group_by f s d ≡ group_at s d
unfolding group_by group_at
group_alike s f l zero = refl
group_alike s f l (suc d) = λ i at k w. closed s at (same (group_alike s f l d) at k w i)
  where
    same : group_by f s d ≡ group_at s d → (at k w : ℕ) → or_by f s (group_by f s d) (at + 1) k w ≡ or_of s (group_at s d) (at + 1) k w
    same again at k w = ap (λ (inner : ℕ → ℕ → ℕ → Parsed). or_by f s inner (at + 1) k w) again ∙ or_alike s (group_at s d) (group_past s d) f (at + 1) k w l

-- the parse with any bound on the joints that is not below the length of the line
pub fuel_never_shows : (s : List ℕ) (at f : ℕ) → length s ≤ f → parse_by f s at ≡ parse_from s at
unfolding parse_from
fuel_never_shows s at f l =
    ap (λ (inner : ℕ → ℕ → ℕ → Parsed). ending s (or_by f s inner at 0 0)) (group_alike s f l 16)
    ∙ ap (ending s) (or_alike s (group_at s 16) (group_past s 16) f at 0 0 l)

-- where a chain of `and` ends, no `and` is ahead
pub and_ends : (s : List ℕ) (d at k w : ℕ) (t : Tree) (e : ℕ) → and_of s (group_at s d) at k w ≡ got t e → word_ahead and_word s e ≡ off
unfolding and_of
and_ends s d at k w t e h = rw h at (chain_stops (length s) (word_ahead and_word s) both (item_of s (group_at s d)) (word_sane and_word s (omega arith)) (item_past s (group_at s d) (group_past s d)) at k w)

-- where a chain of `or` ends, no `or` is ahead
pub or_ends : (s : List ℕ) (d at k w : ℕ) (t : Tree) (e : ℕ) → or_of s (group_at s d) at k w ≡ got t e → word_ahead or_word s e ≡ off
unfolding or_of
or_ends s d at k w t e h = rw h at (chain_stops (length s) (word_ahead or_word s) either (and_of s (group_at s d)) (word_sane or_word s (omega arith)) (and_past s (group_at s d) (group_past s d)) at k w)
