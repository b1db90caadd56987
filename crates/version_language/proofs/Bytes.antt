-- Which bytes are of which class: decided by trying all that a class could hold. Assumes nothing.
use mathlib.Core.Path.{◌≡◌, refl, sym, ◌∙◌}
use mathlib.Core.Bool.{Bool, true, false, not, ◌&&◌, ◌||◌, false≢true}
use mathlib.Core.List.{List, [], ◌∷◌}
use mathlib.Core.Logic.{◌⊎◌, inl, inr}
use Prim.Native.Nat.{ℕ, zero, suc, ◌<◌}
use Prim.Native.Char.{code}
use native.Mathlib.Omega.{arith}
use borrow.Author.Tests.{eqb-true, eqb-false}
use lib.Dec.{eqb}
use Rattle.text.proofs.Cases.{within_true}
use Rattle.std.proofs.lemmas.Bool.{and_parts, or_cases}
use Rattle.text.specs.Class.{is_space, is_digit, is_separator, within, small}
use Rattle.version_language.specs.Appendix.{all}

-- one of a few bytes
abbrev pub listed : List ℕ → ℕ → Bool
listed [] b = false
listed (c ∷ L) b = eqb b c || listed L b

-- the same of a letter, case ignored
abbrev pub lettered : List ℕ → ℕ → Bool
lettered F b = listed F (small b)

-- what holds of each of them holds of one of them
pub among : (L : List ℕ) (q : ℕ → Bool) → all q L ≡ true → (b : ℕ) → listed L b ≡ true → q b ≡ true
among [] q h b m = absurd (false≢true m)
among (c ∷ L) q h b m = go (eqb b c) refl m (among L q (and_parts (q c) (all q L) h).1 b)
  where
    go : (t : Bool) → eqb b c ≡ t → (t || listed L b) ≡ true → (listed L b ≡ true → q b ≡ true) → q b ≡ true
    go true e m rest = rw (eqb-true b c e) (and_parts (q c) (all q L) h).0
    go false e m rest = rest m

-- a test of every number below a bound
abbrev pub below : ℕ → (ℕ → Bool) → Bool
below zero q = true
below (suc n) q = q n && below n q

below_true : (n : ℕ) (q : ℕ → Bool) → below n q ≡ true → (b : ℕ) → b < n → q b ≡ true
below_true zero q h b l = absurd (omega arith)
below_true (suc n) q h b l = go (eqb b n) refl (below_true n q (and_parts (q n) (below n q) h).1 b)
  where
    go : (t : Bool) → eqb b n ≡ t → (b < n → q b ≡ true) → q b ≡ true
    go true e rest = rw (eqb-true b n e) (and_parts (q n) (below n q) h).0
    go false e rest =
        let other : b ≡ n → ⊥ = eqb-false b n e in
        rest (omega arith)

-- the classes hold bytes below 128
abbrev pub Ascii : (ℕ → Bool) → Type 0
Ascii p = (b : ℕ) → p b ≡ true → b < 128

pub digit_ascii : Ascii is_digit
digit_ascii b h = omega (arith, within_true (code "0") (code "9") b h)

pub space_ascii : Ascii is_space
space_ascii b h = go (or_cases (within 9 13 b) (eqb b 32) h)
  where
    go : (within 9 13 b ≡ true) ⊎ (eqb b 32 ≡ true) → b < 128
    go (inl h) = omega (arith, within_true 9 13 b h)
    go (inr h) = omega (arith, eqb-true b 32 h)

pub separator_ascii : Ascii is_separator
separator_ascii b h = go (or_cases (eqb b (code ".") || eqb b (code "-")) (eqb b (code "_")) h)
  where
    two : (eqb b (code ".") ≡ true) ⊎ (eqb b (code "-") ≡ true) → b < 128
    two (inl h) = omega (arith, eqb-true b (code ".") h)
    two (inr h) = omega (arith, eqb-true b (code "-") h)

    go : ((eqb b (code ".") || eqb b (code "-")) ≡ true) ⊎ (eqb b (code "_") ≡ true) → b < 128
    go (inl h) = two (or_cases (eqb b (code ".")) (eqb b (code "-")) h)
    go (inr h) = omega (arith, eqb-true b (code "_") h)

-- one class is part of another, or has no byte in common with it: tried on each byte
abbrev pub Inside : (ℕ → Bool) → (ℕ → Bool) → Type 0
Inside p q = below 128 (λ b. not (p b) || q b) ≡ true

abbrev pub Apart : (ℕ → Bool) → (ℕ → Bool) → Type 0
Apart p q = below 128 (λ b. not (p b && q b)) ≡ true

module _ (p q : ℕ → Bool) (ascii : Ascii p) where
  pub inside : Inside p q → (b : ℕ) → p b ≡ true → q b ≡ true
  inside tried b h = go (p b) h (below_true 128 (λ b. not (p b) || q b) tried b (ascii b h))
    where
      go : (t : Bool) → t ≡ true → (not t || q b) ≡ true → q b ≡ true
      go true e r = r
      go false e r = absurd (false≢true e)

  pub apart : Apart p q → (b : ℕ) → q b ≡ true → p b ≡ false
  apart tried b h = go (p b) refl
    where
      go : (t : Bool) → p b ≡ t → p b ≡ false
      go true e = absurd (false≢true (sym (rw (e, h)) ∙ below_true 128 (λ b. not (p b && q b)) tried b (ascii b e)))
      go false e = e
