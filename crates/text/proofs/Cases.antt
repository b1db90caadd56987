-- A definition that goes by tests, `cond t x y`, against code that made the tests: each law takes one `cond` off the goal, and `search cases`
-- goes through them all. The code's value `r` need not be the definition's: `r ≡ t`, found by search, says that it is the same. Assumes nothing.
use Rattle.std.proofs.lemmas.Bool.{and_parts}
use mathlib.Core.Path.{◌≡◌, refl}
use mathlib.Core.Bool.{Bool, true, false, cond, ◌&&◌, false≢true}
use Prim.Native.Nat.{ℕ, ◌≤◌, ◌<◌}
use borrow.Author.Rules.{rules}
use borrow.Author.Tests.{lt-ltb, le-ltb, eq-eqb, ne_eqb, leb-true, ltb-true, ltb-false}
use lib.Dec.{ltb, leb, eqb}
use Rattle.text.specs.Class.{within}

-- a test that a call made
module _ {A : Type 0} (z x y : A) (r t : Bool) (told : r ≡ t) where
  pub if_true : r ≡ true → z ≡ x → z ≡ cond t x y
  if_true h e = rw (← told, h) e

  pub if_false : r ≡ false → z ≡ y → z ≡ cond t x y
  if_false h e = rw (← told, h) e

-- a comparison
module _ {A : Type 0} (z x y : A) (r q a b : ℕ) where
  pub if_lt : r < q → r ≡ a → q ≡ b → z ≡ x → z ≡ cond (ltb a b) x y
  if_lt h ra qb e = rw (← ra, ← qb, lt-ltb r q) e

  pub if_ge : q ≤ r → r ≡ a → q ≡ b → z ≡ y → z ≡ cond (ltb a b) x y
  if_ge h ra qb e = rw (← ra, ← qb, le-ltb r q) e

  pub if_eq : r ≡ q → r ≡ a → q ≡ b → z ≡ x → z ≡ cond (eqb a b) x y
  if_eq h ra qb e = rw (← ra, ← qb, eq-eqb r q) e

  pub if_ne : (r ≡ q → ⊥) → r ≡ a → q ≡ b → z ≡ y → z ≡ cond (eqb a b) x y
  if_ne h ra qb e = rw (← ra, ← qb, ne_eqb r q) e

pub ruleset cases = (if_true, if_false, if_lt, if_ge, if_eq, if_ne, rules)

-- a proof by the order of two numbers
pub by_order : {P : Type 0} (a b : ℕ) → (a < b → P) → (b ≤ a → P) → P
by_order {P} a b less more = go (ltb a b) refl
  where
    go : (t : Bool) → ltb a b ≡ t → P
    go true e = less (ltb-true a b e)
    go false e = more (ltb-false a b e)

pub within_true : (lo hi b : ℕ) → within lo hi b ≡ true → (lo ≤ b) × (b ≤ hi)
within_true lo hi b h =
    let p = and_parts (leb lo b) (leb b hi) h in
    (leb-true lo b p.0, leb-true b hi p.1)
