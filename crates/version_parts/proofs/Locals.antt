-- The laws of the local part and of its segments. Assumes nothing.
use mathlib.Core.Path.{◌≡◌, refl, sym, ap, ◌∙◌}
use mathlib.Core.Bool.{Bool, true, false, cond}
use mathlib.Core.List.{List}
use Prim.Native.Nat.{ℕ, zero, suc, ◌+◌, ◌≤◌, ◌<◌}
use native.Mathlib.Nat.{add_assoc}
use native.Mathlib.Omega.{arith}
use borrow.Author.Tests.{lt-ltb, le-ltb}
use lib.Dec.{eqb, leb, ltb}
use lib.ListN.{length, drop}
use lib.Seq.{drop-drop}
use Rattle.text.proofs.Cases.{by_order}
use Rattle.text.proofs.Laws.{skip_stop, skip_end}
use Rattle.text.specs.Class.{is_digit, is_alnum, is_separator}
use Rattle.text.specs.Scan.{run, skip, byte_at}
use Rattle.version_parts.proofs.Joins.{joint}
use Rattle.version_parts.proofs.Parts.{byte_drop}
use Rattle.version_parts.specs.Joined.{more}
use Rattle.version_parts.specs.Local.{segment_len, local_len}
use Rattle.version_number.specs.Number.{number_len, value, largest}
use Rattle.version_number.specs.Place.{past}

-- where no digit leads, a segment is its run of letters and digits, whatever the test for size says
led : (n : ℕ) (small : Bool) → cond (ltb 0 n) n (cond small 0 0) ≡ n
led zero true = refl
led zero false = refl
led (suc n) small = rw (lt-ltb 0 (suc n) (omega arith)) refl

module _ (s : List ℕ) (at : ℕ) where
  -- a local segment that no digit starts
  module _ (r : Bool) (test : r ≡ is_digit (byte_at s at)) (miss : r ≡ false) where
    no_digits : run is_digit (drop at s) ≡ 0
    unfolding skip
    no_digits =
        by_order at (length s)
        (λ within. omega (arith, skip_stop is_digit s at 0 within (sym test ∙ miss)))
        (λ past. omega (arith, skip_end is_digit s at past))

    pub segment_led : (all : ℕ) → all ≡ skip is_alnum s at → all ≡ past segment_len s at
    unfolding segment_len number_len skip
    segment_led all found = rw (no_digits, led (run is_alnum (drop at s)) (leb (value (drop at s)) largest)) found

  -- a local segment
  module _ (digits all : ℕ) (told : digits ≡ skip is_digit s at) (found : all ≡ skip is_alnum s at) where
    pub segment_lettered : digits < all → all ≡ past segment_len s at
    unfolding segment_len skip
    segment_lettered l = rw (lt-ltb (run is_digit (drop at s)) (run is_alnum (drop at s)) (omega arith)) found

    pub segment_number : (e : ℕ) → all ≤ digits → e ≡ past number_len s at → e ≡ past segment_len s at
    unfolding segment_len skip
    segment_number e l number = rw (le-ltb (run is_digit (drop at s)) (run is_alnum (drop at s)) (omega arith)) number

  -- the local part
  module _ (r : Bool) (test : r ≡ eqb (byte_at s at) 43) where
    pub local_none : r ≡ false → at ≡ past local_len s at
    unfolding local_len
    local_none h = rw (byte_drop s at, ← test, h) (omega arith)

    module _ (h : r ≡ true) (first : ℕ) (told : first ≡ past segment_len s (at + 1)) where
      first_is : first ≡ at + (1 + segment_len (drop 1 (drop at s)))
      first_is = told ∙ rw (← drop-drop 1 at s) (add_assoc at 1 _)

      pub local_short : first ≤ at + 1 → at ≡ past local_len s at
      unfolding local_len
      local_short l = rw (byte_drop s at, ← test, h, le-ltb 0 (segment_len (drop 1 (drop at s))) (omega (arith, first_is))) (omega arith)

      pub local_there : (e : ℕ) → at + 1 < first → e ≡ past (more is_separator segment_len) s first → e ≡ past local_len s at
      unfolding local_len
      local_there e l end =
          let rest : drop first s ≡ drop (1 + segment_len (drop 1 (drop at s))) (drop at s) = ap (λ (n : ℕ). drop n s) first_is ∙ sym (drop-drop (1 + segment_len (drop 1 (drop at s))) at s) in
          rw (byte_drop s at, ← test, h, lt-ltb 0 (segment_len (drop 1 (drop at s))) (omega (arith, first_is)))
          (omega (arith, end, ap (more is_separator segment_len) rest, first_is))

pub ruleset locals = (segment_led, segment_lettered, segment_number, local_none, local_short, local_there, joint)
