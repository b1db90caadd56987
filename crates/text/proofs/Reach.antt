-- How far a scan looks: it ends within the line, stops at the first element outside its class, and looks at nothing past that. Assumes nothing.
use mathlib.Core.Path.{◌≡◌, refl, sym, ap, ◌∙◌}
use mathlib.Core.Bool.{Bool, true, false, cond, true≢false}
use mathlib.Core.List.{List, [], ◌∷◌, ◌++◌}
use Prim.Native.Nat.{ℕ, zero, suc, ◌+◌, ◌-◌, ◌≤◌, ◌<◌, zero-le, suc-le-suc}
use native.Mathlib.Nat.{add_assoc}
use native.Mathlib.Omega.{arith}
use lib.ListN.{length, get_or, take, drop, length-append, length-take, length-drop, get_or-append}
use lib.Seq.{drop-append-add, take-append_seam, take-length, get_or-drop, get_or-take, get_or-append-add}
use Rattle.text.proofs.Cases.{by_order}
use Rattle.text.proofs.Laws.{skip_stop, skip_end}
use Rattle.text.specs.Scan.{run, skip}

module _ {A : Type 0} (p : A → Bool) where
  -- a run is part of its text
  pub run_le : (s : List A) → run p s ≤ length s
  unfolding run
  run_le [] = zero-le
  run_le (b ∷ s) = go (p b) (run_le s)
    where
      go : (t : Bool) → run p s ≤ length s → cond t (suc (run p s)) 0 ≤ suc (length s)
      go true h = suc-le-suc h
      go false h = zero-le

  -- each of its elements is of the class
  run_in : (s : List A) (d : A) (k : ℕ) → k < run p s → p (get_or s k d) ≡ true
  unfolding run
  run_in [] d k h = absurd (omega arith)
  run_in (b ∷ s) d k h = go (p b) refl k h (run_in s d)
    where
      go : (t : Bool) → p b ≡ t → (k : ℕ) → k < cond t (suc (run p s)) 0 → ((k : ℕ) → k < run p s → p (get_or s k d) ≡ true) → p (get_or (b ∷ s) k d) ≡ true
      go true e zero h again = e
      go true e (suc k) h again = again k (omega arith)
      go false e k h again = absurd (omega arith)

  -- and the element after it is not
  run_out : (s : List A) (d : A) → run p s < length s → p (get_or s (run p s) d) ≡ false
  unfolding run
  run_out [] d h = absurd (omega arith)
  run_out (b ∷ s) d h = go (p b) refl h (run_out s d)
    where
      go : (t : Bool) → p b ≡ t → cond t (suc (run p s)) 0 < suc (length s) → (run p s < length s → p (get_or s (run p s) d) ≡ false) → p (get_or (b ∷ s) (cond t (suc (run p s)) 0) d) ≡ false
      go true e h again = again (omega arith)
      go false e h again = e

  module _ (s : List A) (at : ℕ) where
    pub skip_from : at ≤ skip p s at
    unfolding skip
    skip_from = omega arith

    pub skip_within : at ≤ length s → skip p s at ≤ length s
    unfolding skip
    skip_within h = omega (arith, run_le (drop at s), length-drop at s)

    pub skip_in : (d : A) (k : ℕ) → at ≤ k → k < skip p s at → p (get_or s k d) ≡ true
    unfolding skip
    skip_in d k l h =
        let e : at + (k - at) ≡ k = omega arith in
        rw (get_or-drop, e) at (run_in (drop at s) d (k - at) (omega arith))

    pub skip_out : (d : A) → skip p s at < length s → p (get_or s (skip p s at) d) ≡ false
    unfolding skip
    skip_out d h = rw (← get_or-drop at s (run p (drop at s)) d) (run_out (drop at s) d (omega (arith, length-drop at s)))

    -- no other place is so
    pub skip_is : (d : A) (e : ℕ) → at ≤ e → e ≤ length s → ((k : ℕ) → at ≤ k → k < e → p (get_or s k d) ≡ true) → (e < length s → p (get_or s e d) ≡ false) → skip p s at ≡ e
    skip_is d e l h inside outside =
        let low : skip p s at < e → ⊥ = λ q. true≢false (sym (inside (skip p s at) skip_from q) ∙ skip_out d (omega arith)) in
        let high : e < skip p s at → ⊥ = λ q. true≢false (sym (skip_in d e l q) ∙ outside (omega (arith, skip_within (omega arith)))) in
        omega arith

  module _ (s : List A) (at : ℕ) (d : A) where
    -- what it answers depends only on what stands up to and including the stop
    pub skip_local : (t : List A) (n : ℕ) → skip p s at < n → n ≤ length s → take n s ≡ take n t → skip p t at ≡ skip p s at
    skip_local t n stop room same =
        let long : n ≤ length t = omega (arith, simp length-take at (ap length same)) in
        let alike : (k : ℕ) → k < n → get_or t k d ≡ get_or s k d = λ k l. sym (get_or-take n t k d l) ∙ rw (← same) (get_or-take n s k d l) in
        skip_is t at d (skip p s at) (skip_from s at) (omega arith)
        (λ k l h. ap p (alike k (omega arith)) ∙ skip_in s at d k l h)
        (λ h. ap p (alike (skip p s at) stop) ∙ skip_out s at d (omega arith))

    -- so what follows the text where it stopped is not looked at
    pub skip_before : (t : List A) → skip p s at < length s → skip p (s ++ t) at ≡ skip p s at
    skip_before t stop = skip_local (s ++ t) (length s) stop (omega arith) (take-length s ∙ sym (take-append_seam s t))

    -- where it stopped it stays
    pub skip_again : skip p s (skip p s at) ≡ skip p s at
    skip_again =
        by_order (skip p s at) (length s)
        (λ within. skip_stop p s (skip p s at) d within (skip_out s at d within))
        (λ ended. skip_end p s (skip p s at) ended)

    -- a text in front moves the stop by its length
    pub skip_shift : (r : List A) → skip p (r ++ s) (length r + at) ≡ length r + skip p s at
    unfolding skip
    skip_shift r = rw drop-append-add (add_assoc (length r) at _)

    -- a run that reaches the end goes on in what follows
    pub skip_across : (t : List A) → at ≤ length s → skip p s at ≡ length s → skip p (s ++ t) at ≡ length s + run p t
    skip_across t l whole =
        skip_is (s ++ t) at d (length s + run p t) (omega arith) (omega (arith, length-append s t, run_le t))
        (λ k from h. by_order k (length s)
        (λ low. ap p (get_or-append s t d k low) ∙ skip_in s at d k from (omega arith))
        (λ high.
        let e : length s + (k - length s) ≡ k = omega arith in
        rw (← get_or-append-add s t (k - length s) d, e) at (run_in t d (k - length s) (omega arith))))
        (λ h. ap p (get_or-append-add s t (run p t) d) ∙ run_out t d (omega (arith, length-append s t)))
