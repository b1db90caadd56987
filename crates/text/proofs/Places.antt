-- A place at which a byte was seen lies within the line, so that the next place is a number of the machine's. Assumes nothing.
use mathlib.Core.Path.{◌≡◌, sym, ap, refl, ◌∙◌}
use mathlib.Core.Bool.{Bool, true, false, true≢false}
use mathlib.Core.List.{List}
use Prim.Native.Nat.{ℕ, ◌+◌, ◌^◌, ◌<◌}
use native.Mathlib.Omega.{arith}
use lib.Dec.{eqb}
use lib.ListN.{length, get_or-eq_default}
use mir.Syntax.{w64}
use mir.Val.{Fits}
use Rattle.text.proofs.Cases.{by_order}
use Rattle.text.specs.Class.{is_separator}
use Rattle.text.specs.Scan.{byte_at}

module _ (s : List ℕ) (at : ℕ) where
  -- a byte of a class that 0 is not in stands within the line
  pub byte_lt : (p : ℕ → Bool) → p 0 ≡ false → p (byte_at s at) ≡ true → at < length s
  byte_lt p none h =
      by_order at (length s) (λ within. within)
      (λ past. absurd (true≢false (sym h ∙ ap p (get_or-eq_default s 0 past) ∙ none)))

  module _ (room : length s < 2 ^ 64) (r : Bool) (hit : r ≡ true) where
    pub has_fits : (b : ℕ) → r ≡ eqb (byte_at s at) b → eqb 0 b ≡ false → Fits w64 (at + 1)
    has_fits b test none = record { fits = omega (arith, byte_lt (λ (x : ℕ). eqb x b) none (sym test ∙ hit)) }

    pub separator_fits : r ≡ is_separator (byte_at s at) → Fits w64 (at + 1)
    separator_fits test = record { fits = omega (arith, byte_lt is_separator refl (sym test ∙ hit)) }

pub ruleset places = (has_fits, separator_fits)
