-- Normalising twice is normalising once. Assumes nothing.
use mathlib.Core.Path.{◌≡◌, refl, ap₂, ◌∙◌}
use mathlib.Core.Bool.{Bool, true, false, cond, ◌&&◌, and-false}
use mathlib.Core.List.{List, [], ◌∷◌}
use Prim.Native.Nat.{ℕ, ◌+◌}
use native.Mathlib.Omega.{arith}
use borrow.Author.Tests.{ne_eqb, lt-leb}
use lib.ListN.{get_or}
use Rattle.text.proofs.Cases.{within_true}
use Rattle.std.proofs.lemmas.Bool.{and_parts}
use Rattle.text.specs.Class.{is_capital, is_separator}
use Rattle.name.proofs.Laws.{kept}
use Rattle.name.specs.Normal.{form, merges, normal}

-- a capital made small is no separator and no capital
module _ (b : ℕ) (h : is_capital b ≡ true) where
  small_separator : is_separator (b + 32) ≡ false
  small_separator =
      let w = within_true 65 90 b h in
      rw (ne_eqb (b + 32) 46 (omega arith), ne_eqb (b + 32) 45 (omega arith), ne_eqb (b + 32) 95 (omega arith))

  small_capital : is_capital (b + 32) ≡ false
  small_capital =
      let w = within_true 65 90 b h in
      rw (lt-leb (b + 32) 90 (omega arith), and-false)

pub form_separator : (b : ℕ) → is_separator (form b) ≡ is_separator b
form_separator b = go (is_separator b) (is_capital b) refl refl
  where
    go : (t u : Bool) → is_separator b ≡ t → is_capital b ≡ u → is_separator (cond t 45 (cond u (b + 32) b)) ≡ t
    go true u s c = refl
    go false true s c = small_separator b c
    go false false s c = s

form_form : (b : ℕ) → form (form b) ≡ form b
form_form b = go (is_separator b) (is_capital b) refl refl
  where
    go : (t u : Bool) → is_separator b ≡ t → is_capital b ≡ u → form (cond t 45 (cond u (b + 32) b)) ≡ cond t 45 (cond u (b + 32) b)
    go true u s c = refl
    go false true s c = rw (small_separator b c, small_capital b c)
    go false false s c = rw (s, c)

pub normal_head : (s : List ℕ) → is_separator (get_or (normal s) 0 0) ≡ is_separator (get_or s 0 0)
unfolding normal
normal_head [] = refl
normal_head (b ∷ s) = go (merges (b ∷ s)) refl (normal_head s)
  where
    go : (t : Bool) → merges (b ∷ s) ≡ t → is_separator (get_or (normal s) 0 0) ≡ is_separator (get_or s 0 0) → is_separator (get_or (cond t (normal s) (form b ∷ normal s)) 0 0) ≡ is_separator b
    go true h head = let w = and_parts (is_separator b) (is_separator (get_or s 0 0)) h in cc
    go false h head = form_separator b

pub idempotent : (s : List ℕ) → normal (normal s) ≡ normal s
unfolding normal
idempotent [] = refl
idempotent (b ∷ s) = go (merges (b ∷ s)) refl (idempotent s)
  where
    go : (t : Bool) → merges (b ∷ s) ≡ t → normal (normal s) ≡ normal s → normal (cond t (normal s) (form b ∷ normal s)) ≡ cond t (normal s) (form b ∷ normal s)
    go true h again = again
    go false h again = kept (form b ∷ normal s) _ _ refl (ap₂ ◌&&◌ (form_separator b) (normal_head s) ∙ h) ∙ ap₂ ◌∷◌ (form_form b) again
