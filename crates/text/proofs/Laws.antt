-- The laws of `skip`, which answer every scan's loop, here and in the crates above. Assumes nothing.
use mathlib.Core.Path.{◌≡◌, sym, ◌∙◌}
use mathlib.Core.Bool.{Bool, true, false}
use mathlib.Core.List.{List}
use Prim.Native.Nat.{ℕ, ◌+◌, ◌-◌, ◌≤◌, ◌<◌}
use native.Mathlib.Nat.{add-suc, suc-add, add-zero, zero-add}
use native.Mathlib.Numerals.{add-one}
use lib.ListN.{length, get_or, drop_of_length-le, get_or-eq_default}
use lib.Seq.{drop-cons}
use Rattle.text.proofs.Cases.{cases}
use Rattle.text.specs.Scan.{run, skip, byte_at}

module _ {A : Type 0} (p : A → Bool) (s : List A) (at : ℕ) where
  -- an element of the class belongs to the run
  pub skip_on : (d : A) → at < length s → p (get_or s at d) ≡ true → skip p s (at + 1) ≡ skip p s at
  unfolding skip run
  skip_on d h hit = rw (drop-cons s at d, hit, add-one, suc-add, add-suc)

  -- any other, and the end, ends it
  pub skip_stop : (d : A) → at < length s → p (get_or s at d) ≡ false → skip p s at ≡ at
  unfolding skip run
  skip_stop d h miss = rw (drop-cons s at d, miss, add-zero)

  pub skip_end : length s ≤ at → skip p s at ≡ at
  unfolding skip run
  skip_end h = rw (drop_of_length-le s h, add-zero)

pub skip_start : {A : Type 0} (p : A → Bool) (s : List A) → skip p s 0 ≡ run p s
unfolding skip
skip_start p s = zero-add (run p s)

-- what is left of the line, which falls in a loop over it
abbrev pub left : List ℕ → ℕ → ℕ → ℕ
left s start at = length s - at

-- The same laws in the form of a loop's needs: `e` is where the run ends, and `r` is the test that the code made.
module _ {A : Type 0} (p : A → Bool) (s : List A) (at e : ℕ) (inv : skip p s at ≡ e) where
  module _ (d : A) (h : at < length s) (r : Bool) (test : r ≡ p (get_or s at d)) where
    pub turn : r ≡ true → skip p s (at + 1) ≡ e
    turn hit = skip_on p s at d h (cc) ∙ inv

    pub stopped : r ≡ false → at ≡ e
    stopped miss = sym (skip_stop p s at d h (cc)) ∙ inv

  pub ended : length s ≤ at → at ≡ e
  ended h = sym (skip_end p s at h) ∙ inv

-- past the end stands the default
pub past_end : (s : List ℕ) (at : ℕ) → length s ≤ at → 0 ≡ byte_at s at
past_end s at h = sym (get_or-eq_default s 0 h)

-- a run from a fresh cursor
pub run_start : (p : ℕ → Bool) (s : List ℕ) (from to : ℕ) → from ≡ 0 → to ≡ skip p s from → to ≡ run p s
run_start p s from to e f = rw (f, e, skip_start)

pub ruleset runs = (turn, stopped, ended, past_end, run_start, cases)
