-- The laws of the `v` and of the epoch. Assumes nothing.
use mathlib.Core.Path.{◌≡◌, sym, ap, ◌∙◌}
use mathlib.Core.Bool.{Bool, true, false}
use mathlib.Core.List.{List}
use Prim.Native.Nat.{ℕ, ◌+◌, ◌≤◌, ◌<◌}
use native.Mathlib.Omega.{arith}
use borrow.Author.Tests.{lt-ltb, le-ltb}
use lib.Dec.{eqb}
use lib.ListN.{drop}
use lib.Seq.{get_or-drop}
use Rattle.text.specs.Scan.{byte_at}
use Rattle.version_parts.proofs.Joins.{joint}
use Rattle.version_number.specs.Number.{number_len}
use Rattle.version_number.specs.Place.{past}
use Rattle.version_parts.specs.Release.{epoch_len}

module _ (s : List ℕ) (at : ℕ) where
  -- the epoch: a number and `!`
  module _ (end : ℕ) (number : end ≡ past number_len s at) where
    pub epoch_short : end ≤ at → at ≡ past epoch_len s at
    unfolding epoch_len
    epoch_short l = rw (le-ltb 0 (number_len (drop at s)) (omega arith)) (omega arith)

    module _ (some : at < end) (r : Bool) (test : r ≡ eqb (byte_at s end) 33) where
      mark : eqb (byte_at (drop at s) (number_len (drop at s))) 33 ≡ r
      mark = ap (λ (b : ℕ). eqb b 33) (get_or-drop at s (number_len (drop at s)) 0 ∙ ap (byte_at s) (sym number)) ∙ sym test

      pub epoch_there : r ≡ true → end + 1 ≡ past epoch_len s at
      unfolding epoch_len
      epoch_there h = rw (lt-ltb 0 (number_len (drop at s)) (omega arith), mark, h) (omega arith)

      pub epoch_none : r ≡ false → at ≡ past epoch_len s at
      unfolding epoch_len
      epoch_none h = rw (lt-ltb 0 (number_len (drop at s)) (omega arith), mark, h) (omega arith)

pub ruleset released = (epoch_short, epoch_there, epoch_none, joint)
