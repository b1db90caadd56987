-- The laws of `more`, which answer the loops over release numbers and local segments. Assumes nothing.
use mathlib.Core.Path.{◌≡◌, refl, sym, ap, ◌∙◌}
use mathlib.Core.Bool.{Bool, true, false, cond, ◌&&◌, false≢true, and-false}
use mathlib.Core.List.{List, [], ◌∷◌}
use Prim.Native.Nat.{ℕ, zero, suc, ◌+◌, ◌≤◌, ◌<◌}
use native.Mathlib.Nat.{add_assoc}
use native.Mathlib.Omega.{arith}
use borrow.Author.Tests.{lt-ltb}
use lib.Dec.{ltb}
use lib.ListN.{length, drop, length-drop}
use lib.Seq.{drop-drop}
use Rattle.text.specs.Scan.{byte_at}
use Rattle.version_parts.proofs.Parts.{part, byte_drop}
use Rattle.version_parts.specs.Joined.{more_len, more}
use Rattle.version_number.specs.Place.{past}

module _ (joins : ℕ → Bool) (item : List ℕ → ℕ) (none : joins 0 ≡ false) where
  nothing_joins : (k : ℕ) → more_len joins item k [] ≡ 0
  unfolding more_len
  nothing_joins zero = refl
  nothing_joins (suc k) = rw none

  -- the bound on the number of items never shows: as many as there are bytes are enough
  pub enough : (k m : ℕ) (s : List ℕ) → length s ≤ k → length s ≤ m → more_len joins item k s ≡ more_len joins item m s
  unfolding more_len
  enough zero m [] h l = sym (nothing_joins m)
  enough (suc k) zero [] h l = nothing_joins (suc k)
  enough zero m (b ∷ s) h l = absurd (omega arith)
  enough (suc k) zero (b ∷ s) h l = absurd (omega arith)
  enough (suc k) (suc m) s h l =
      let u = drop (1 + item (drop 1 s)) s in
      let short : length u ≤ k = omega (arith, length-drop (1 + item (drop 1 s)) s) in
      let short' : length u ≤ m = omega (arith, length-drop (1 + item (drop 1 s)) s) in
      ap (λ (n : ℕ). cond (joins (byte_at s 0) && ltb 0 (item (drop 1 s))) (1 + item (drop 1 s) + n) 0) (enough k m u short short')

  -- `more` by its first joint
  more_on : (s : List ℕ) → joins (byte_at s 0) ≡ true → 0 < item (drop 1 s) → more joins item s ≡ 1 + item (drop 1 s) + more joins item (drop (1 + item (drop 1 s)) s)
  unfolding more more_len
  more_on [] h some = absurd (false≢true (sym none ∙ h))
  more_on (b ∷ s) h some =
      let u = drop (1 + item (drop 1 (b ∷ s))) (b ∷ s) in
      let short : length u ≤ length s = omega (arith, length-drop (1 + item (drop 1 (b ∷ s))) (b ∷ s)) in
      rw (h, lt-ltb 0 (item s) some) (ap (λ (n : ℕ). 1 + item s + n) (enough (length s) (length u) u short (omega arith)))

  more_off : (s : List ℕ) → (joins (byte_at s 0) && ltb 0 (item (drop 1 s))) ≡ false → more joins item s ≡ 0
  unfolding more more_len
  more_off [] h = refl
  more_off (b ∷ s) h = rw h

  -- a turn, and the two ways out: `e` is where the items end
  module _ (s : List ℕ) (at e : ℕ) (inv : past (more joins item) s at ≡ e) (r : Bool) (test : r ≡ joins (byte_at s at)) where
    joined : joins (byte_at (drop at s) 0) ≡ r
    joined = ap joins (byte_drop s at) ∙ sym test

    module _ (next : ℕ) (told : next ≡ past item s (at + 1)) (h : r ≡ true) where
      next_is : next ≡ at + (1 + item (drop 1 (drop at s)))
      next_is = told ∙ rw (← drop-drop 1 at s) (add_assoc at 1 _)

      pub more_turn : at + 1 < next → past (more joins item) s next ≡ e
      more_turn l =
          let some : 0 < item (drop 1 (drop at s)) = omega (arith, next_is) in
          let rest : drop next s ≡ drop (1 + item (drop 1 (drop at s))) (drop at s) = ap (λ (n : ℕ). drop n s) next_is ∙ sym (drop-drop (1 + item (drop 1 (drop at s))) at s) in
          let first = more_on (drop at s) (joined ∙ h) some in
          omega (arith, ap (more joins item) rest, first, next_is, inv)

      pub more_short : next ≤ at + 1 → at ≡ e
      more_short l =
          let few : item (drop 1 (drop at s)) ≡ 0 = omega (arith, next_is) in
          let off = more_off (drop at s) (rw (few) (and-false (joins (byte_at (drop at s) 0)))) in
          omega (arith, off, inv)

    pub more_stop : r ≡ false → at ≡ e
    more_stop h = let off = more_off (drop at s) (rw (joined, h)) in omega (arith, off, inv)

pub ruleset joint = (more_turn, more_short, more_stop, part)
