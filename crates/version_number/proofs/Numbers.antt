-- The laws of `value_from` and `number_len`, which answer the loop that reads a number. Assumes nothing.
use mathlib.Core.Path.{◌≡◌, refl, sym, ◌∙◌}
use mathlib.Core.Bool.{Bool, true, false, cond}
use mathlib.Core.List.{List, [], ◌∷◌}
use Prim.Native.Nat.{ℕ, ◌+◌, ◌*◌, ◌≤◌, ◌<◌}
use native.Mathlib.Numerals.{add-one}
use native.Mathlib.Omega.{arith}
use borrow.Author.Tests.{le-leb, lt-leb, ltb-true, ltb-false}
use lib.Dec.{ltb}
use lib.ListN.{length, drop, get_or, drop_of_length-le}
use lib.Seq.{drop-cons}
use mir.Syntax.{w64}
use mir.Val.{Fits}
use Rattle.cursor.proofs.Laws.{scan}
use Rattle.text.proofs.Laws.{skip_stop, skip_end, skip_on}
use Rattle.text.specs.Class.{is_digit}
use Rattle.text.specs.Scan.{skip}
use Rattle.version_number.specs.Place.{past}
use Rattle.version_number.specs.Number.{digit_value, value_from, value, largest, number_len}

-- digits make a number no smaller
pub value_grows : (v : ℕ) (s : List ℕ) → v ≤ value_from v s
unfolding value_from
value_grows v [] = omega arith
value_grows v (b ∷ s) = go (is_digit b) (value_grows (10 * v + digit_value b) s)
  where
    go : (t : Bool) → 10 * v + digit_value b ≤ value_from (10 * v + digit_value b) s → v ≤ cond t (value_from (10 * v + digit_value b) s) v
    go true h = omega arith
    go false h = omega arith

-- what has been read of the number at `at`: v, up to `end`
pub record Counted (s : List ℕ) (at v end : ℕ) : Type 0 where
  pub scanned : skip is_digit s end ≡ skip is_digit s at
  pub counted : value_from v (drop end s) ≡ value (drop at s)
  pub small : v ≤ largest

pub counted_start : (s : List ℕ) (at : ℕ) → Counted s at 0 at
counted_start s at = record { scanned = refl; counted = refl; small = omega arith }

module _ (s : List ℕ) (at v end : ℕ) (inv : Counted s at v end) where
  -- where the digits end, the number is read
  number_done : value_from v (drop end s) ≡ v → skip is_digit s end ≡ end → end ≡ past number_len s at
  unfolding number_len skip
  number_done same stop = rw (← inv.counted, same, le-leb v largest inv.small) (sym stop ∙ inv.scanned)

  module _ (h : end < length s) (r : Bool) (test : r ≡ is_digit (get_or s end 0)) where
    module _ (hit : r ≡ true) where
      value_on : value_from (10 * v + digit_value (get_or s end 0)) (drop (end + 1) s) ≡ value_from v (drop end s)
      unfolding value_from
      value_on = rw (drop-cons s end 0 h, ← test, hit, add-one)

      module _ (d : ℕ) (digit : d ≡ digit_value (get_or s end 0)) where
        module _ (over : Bool) (told : over ≡ ltb largest (10 * v + d)) where
          -- too large already: there is no number
          pub number_over : over ≡ true → at ≡ past number_len s at
          unfolding number_len
          number_over t =
              let big : largest < value (drop at s) = omega (arith, value_grows (10 * v + digit_value (get_or s end 0)) (drop (end + 1) s), value_on, inv.counted, ltb-true largest (10 * v + d) (sym told ∙ t)) in
              rw (lt-leb (value (drop at s)) largest big) (omega arith)

          module _ (f : over ≡ false) where
            within : 10 * v + d ≤ largest
            within = ltb-false largest (10 * v + d) (sym told ∙ f)

            pub tenfold_fits : Fits w64 (10 * v)
            tenfold_fits = record { fits = omega (arith, within) }

            pub digit_fits : Fits w64 (10 * v + d)
            digit_fits = record { fits = omega (arith, within) }

          pub number_turn : over ≡ false → Counted s at (10 * v + d) (end + 1)
          number_turn f = record {
            scanned = skip_on is_digit s end 0 h (sym test ∙ hit) ∙ inv.scanned;
            counted = rw digit (value_on ∙ inv.counted);
            small = ltb-false largest (10 * v + d) (sym told ∙ f);
          }

    pub number_stopped : r ≡ false → end ≡ past number_len s at
    unfolding value_from
    number_stopped miss = number_done (rw (drop-cons s end 0 h, ← test, miss)) (skip_stop is_digit s end 0 h (sym test ∙ miss))

  pub number_ended : length s ≤ end → end ≡ past number_len s at
  unfolding value_from
  number_ended l = number_done (rw (drop_of_length-le s l)) (skip_end is_digit s end l)

pub ruleset number = (tenfold_fits, digit_fits, counted_start, number_over, number_turn, number_stopped, number_ended, scan)
