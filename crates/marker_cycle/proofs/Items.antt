-- For the cycle: comparisons, groups and the two chains, each of which stays within the limits, and what each comes to from the parts of the code. Assumes nothing.
use Prim.Native.Char.{code}
use Prim.Native.Nat.{ℕ, zero, suc, ◌+◌, ◌-◌, ◌<◌, ◌≤◌}
use mathlib.Core.Bool.{Bool, true, false, cond}
use mathlib.Core.List.{List}
use mathlib.Core.Path.{◌≡◌, refl}
use native.Mathlib.Numerals.{sub-one}
use native.Mathlib.Omega.{arith}
use borrow.Author.Tests.{ltb-false, eqb-true}
use lib.Dec.{ltb, eqb}
use lib.ListN.{length, drop, length-append}
use Rattle.marker_verdict.proofs.Further.{found_further}
use Rattle.marker_verdict.specs.Found.{found_at}
use Rattle.marker_verdict.specs.declared.found.Found.{Found}
use Rattle.marker_verdict.specs.declared.verdict.Verdict.{Verdict}
use Rattle.marker_cycle.proofs.Chain.{Sane, Joins, chain_sane}
use Rattle.cursor.specs.Limits.{max_comparisons}
use Rattle.marker_steps.specs.Grammar.{both, either, group, kept_in, warned_in, kept_of, warned_of, Parsed, got, fault, settled, settle, on, off, word_ahead, and_word, or_word, item_at, item_of, and_of, or_of, closed, group_at}
use Rattle.marker_steps.specs.Marking.{some}
use Rattle.marker_steps.specs.inner.Steps.{State, emit, state_of, closed_by}
use Rattle.marker_store.specs.declared.sheet.Sheet.{Sheet}
use Rattle.text.proofs.Cases.{by_order}
use Rattle.std.proofs.lemmas.Bool.{and_parts}
use Rattle.text.proofs.Laws.{skip_end}
use Rattle.text.proofs.Reach.{skip_from, skip_within}
use Rattle.text.specs.Class.{is_space, is_word_byte}
use Rattle.refusal.specs.Refusal.{span, refusal}
use Rattle.text.specs.Scan.{skip, byte_at}
use Rattle.text.specs.Word.{begins, spells}
use Rattle.refusal.specs.declared.fault.Fault.TheVariants.{ExpectedFoundEnd, ExpectedFoundOther, TooDeep}
use Rattle.refusal.specs.declared.fault.Refusal.{Refusal}
use Rattle.refusal.specs.declared.place.Span.{Span}
use Rattle.std.specs.Prelude.{Result, Ok, Err}

pub joins_both : Joins both 64
unfolding kept_of warned_of some emit
joins_both = record {
  keeps = λ t u. length-append (kept_of t) (kept_of u);
  warns = λ t u. length-append (warned_of t) (warned_of u);
  somes = λ t u. refl;
  emits = λ t u r. refl;
}

pub joins_either : Joins either 65
unfolding kept_of warned_of some emit
joins_either = record {
  keeps = λ t u. length-append (kept_of t) (kept_of u);
  warns = λ t u. length-append (warned_of t) (warned_of u);
  somes = λ t u. refl;
  emits = λ t u r. refl;
}

-- a run that goes somewhere ends within the line
pub run_within : (p : ℕ → Bool) (s : List ℕ) (at : ℕ) → at < skip p s at → skip p s at ≤ length s
run_within p s at h = by_order at (length s) (λ l. skip_within p s at (omega arith)) (λ l. absurd (omega (arith, skip_end p s at l)))

-- a joining word goes on past itself, within the line
pub word_sane : (word s : List ℕ) → 0 < length word → (e d : ℕ) → word_ahead word s e ≡ on d → (e < d) × (d ≤ length s)
unfolding word_ahead
word_sane word s pos e d h = test (spells word s (span p (q - p))) refl h
  where
    p : ℕ
    p = skip is_space s e

    q : ℕ
    q = skip is_word_byte s p

    test : (b : Bool) → spells word s (span p (q - p)) ≡ b → cond b (on q) off ≡ on d → (e < d) × (d ≤ length s)
    test true eq g =
        let long = eqb-true (q - p) (length word) (and_parts (eqb (q - p) (length word)) (begins word (drop p s)) eq).0 in
        let z : q ≡ d = cc in
        (omega (arith, skip_from is_space s e), omega (arith, run_within is_word_byte s p (omega arith)))
    test false eq g = let z : ◌≡◌ {A = ℕ} 0 1 = cc in absurd (omega arith)

-- a fact of both branches of a test
pub by_test : (P : Parsed → Type 0) (b : Bool) (x y : Parsed) → (b ≡ true → P x) → (b ≡ false → P y) → P (cond b x y)
by_test P true x y f g = f refl
by_test P false x y f g = g refl

settled_sane : (at k w : ℕ) (v : Verdict) (x : Span) (next : ℕ) → at < next → Sane at k w (settled v x next k w)
unfolding settled kept_of warned_of
settled_sane at k w v x next h =
    by_test (Sane at k w) (ltb 64 (w + length (warned_in v x))) _ _ (λ _. tt)
    (λ few. by_test (Sane at k w) (ltb 64 (k + length (kept_in v))) _ _ (λ _. tt)
    (λ short. (h, ltb-false 64 (k + length (kept_in v)) short, ltb-false 64 (w + length (warned_in v x)) few)))

settle_sane : (s : List ℕ) (at k w : ℕ) → Sane at k w (settle (found_at s at) k w)
unfolding settle
settle_sane s at k w = go (found_at s at) refl
  where
    go : (f : Result Found Refusal) → found_at s at ≡ f → Sane at k w (settle f k w)
    go (Ok f) e = settled_sane at k w f.verdict f.span f.next.at (found_further s at f.verdict f.span f.next e).behind
    go (Err why) e = tt

sane_from : (at p k w : ℕ) (q : Parsed) → at ≤ p → Sane p k w q → Sane at k w q
sane_from at p k w (got t e) h sn = (omega (arith, sn.0), sn.1, sn.2)
sane_from at p k w (fault why) h sn = tt

abbrev pub Sanes : (ℕ → ℕ → ℕ → Parsed) → Type 0
Sanes f = (at k w : ℕ) → k ≤ max_comparisons → w ≤ max_comparisons → Sane at k w (f at k w)

module _ (s : List ℕ) (inner : ℕ → ℕ → ℕ → Parsed) where
  at_group : (h k w : ℕ) {b : Bool} → b ≡ eqb (byte_at s h) (code "(") → b ≡ true → item_at s inner h k w ≡ inner h k w
  unfolding item_at
  at_group h k w e t = rw (← e, item_at, t)

  at_found : (h k w : ℕ) {b : Bool} → b ≡ eqb (byte_at s h) (code "(") → b ≡ false → item_at s inner h k w ≡ settle (found_at s h) k w
  unfolding item_at
  at_found h k w e t = rw (← e, item_at, t)

  module _ (at k w : ℕ) {h : ℕ} (skipped : h ≡ skip is_space s at) {b : Bool} (seen : b ≡ eqb (byte_at s h) (code "(")) where
    pub item_group : b ≡ true → item_of s inner at k w ≡ inner h k w
    unfolding item_of
    item_group t = rw (← skipped) (at_group h k w seen t)

    pub item_found : b ≡ false → item_of s inner at k w ≡ settle (found_at s h) k w
    unfolding item_of
    item_found t = rw (← skipped) (at_found h k w seen t)

  -- an item is a group or a comparison
  pub item_ind : (Q : Parsed → Type 0) (at k w : ℕ) → Q (inner (skip is_space s at) k w) → Q (settle (found_at s (skip is_space s at)) k w) → Q (item_of s inner at k w)
  item_ind Q at k w qg qj = go (eqb (byte_at s (skip is_space s at)) (code "(")) refl
    where
      go : (b : Bool) → b ≡ eqb (byte_at s (skip is_space s at)) (code "(") → Q (item_of s inner at k w)
      go true e = rw (item_group at k w refl e refl) qg
      go false e = rw (item_found at k w refl e refl) qj

  pub item_sane : Sanes inner → Sanes (item_of s inner)
  item_sane f at k w hk hw =
      let p = skip is_space s at in
      item_ind (Sane at k w) at k w
      (sane_from at p k w (inner p k w) (skip_from is_space s at) (f p k w hk hw))
      (sane_from at p k w (settle (found_at s p) k w) (skip_from is_space s at) (settle_sane s p k w))

  pub and_sane : Sanes inner → Sanes (and_of s inner)
  unfolding and_of
  and_sane f = chain_sane (length s) (word_ahead and_word s) 64 both (item_of s inner) (word_sane and_word s (omega arith)) (item_sane f) joins_both

  pub or_sane : Sanes inner → Sanes (or_of s inner)
  unfolding or_of
  or_sane f = chain_sane (length s) (word_ahead or_word s) 65 either (and_of s inner) (word_sane or_word s (omega arith)) (and_sane f) joins_either

closed_sane : (s : List ℕ) (at k w : ℕ) (p : Parsed) → Sane (at + 1) k w p → Sane at k w (closed s at p)
unfolding closed kept_of warned_of
closed_sane s at k w (got t e) sn =
    let d = skip is_space s e in
    by_test (Sane at k w) (eqb (byte_at s d) (code ")")) _ _ (λ _. (omega (arith, sn.0, skip_from is_space s e), sn.1, sn.2))
    (λ _. by_test (Sane at k w) (ltb d (length s)) _ _ (λ _. tt) (λ _. tt))
closed_sane s at k w (fault why) sn = tt

pub group_sane : (s : List ℕ) (d : ℕ) → Sanes (group_at s d)
unfolding group_at
group_sane s zero at k w hk hw = tt
group_sane s (suc d) at k w hk hw = closed_sane s at k w (or_of s (group_at s d) (at + 1) k w) (or_sane s (group_at s d) (group_sane s d) (at + 1) k w hk hw)

pub group_deep : (s : List ℕ) (d at k w : ℕ) → d ≡ 0 → group_at s d at k w ≡ fault (refusal TooDeep at 1)
unfolding group_at
group_deep s d at k w e = rw e

pub group_in : (s : List ℕ) (d at k w : ℕ) → (d ≡ 0 → ⊥) → group_at s d at k w ≡ closed s at (or_of s (group_at s (d - 1)) (at + 1) k w)
unfolding group_at
group_in s zero at k w f = absurd (f refl)
group_in s (suc d) at k w f = rw (sub-one (suc d))

-- what closes a group says of its inside what the grammar says of its tree
pub closed_state : (s : List ℕ) (opened : ℕ) (p : Parsed) (r : Sheet) → closed_by s opened (state_of p r) ≡ state_of (closed s opened p) r
unfolding closed_by state_of closed emit some
closed_state s opened (got t e) r = go (eqb (byte_at s d) (code ")")) (ltb d (length s))
  where
    d : ℕ
    d = skip is_space s e

    go : (x y : Bool) →
        cond x (state_of (got (group t) (d + 1)) r) (cond y (state_of (fault (refusal ExpectedFoundOther d 1)) r) (state_of (fault (refusal ExpectedFoundEnd opened 1)) r))
        ≡ state_of (cond x (got (group t) (d + 1)) (cond y (fault (refusal ExpectedFoundOther d 1)) (fault (refusal ExpectedFoundEnd opened 1)))) r
    go true y = refl
    go false true = refl
    go false false = refl
closed_state s opened (fault why) r = refl

pub group_state : (s : List ℕ) (d at : ℕ) (r : Sheet) (inner res : State) {h : ℕ} → h ≡ skip is_space s at → {b : Bool} → b ≡ eqb (byte_at s h) (code "(") → b ≡ true → (d ≡ 0 → ⊥) →
    inner ≡ state_of (or_of s (group_at s (d - 1)) (h + 1) r.counts.kept r.counts.warned) r → res ≡ closed_by s h inner →
    res ≡ state_of (item_of s (group_at s d) at r.counts.kept r.counts.warned) r
group_state s d at r inner res {h} hs hb ht hd hi hr =
    rw (
      item_group s (group_at s d) at r.counts.kept r.counts.warned hs hb ht,
      group_in s d h r.counts.kept r.counts.warned hd,
      ← closed_state s h (or_of s (group_at s (d - 1)) (h + 1) r.counts.kept r.counts.warned) r,
      ← hi,
    ) hr
