-- What an entry makes of the check that comes first. Assumes nothing.
use mathlib.Core.Path.{◌≡◌, refl, sym, ap, ◌∙◌}
use mathlib.Core.Bool.{Bool, true, false, cond}
use mathlib.Core.List.{List}
use Prim.Native.Nat.{ℕ, ◌≤◌}
use native.Mathlib.Omega.{arith}
use borrow.Author.Tests.{ltb-false}
use lib.Dec.{ltb}
use lib.ListN.{length}
use Rattle.text.proofs.Reach.{run_le}
use Rattle.refusal.specs.Answer.{Answer, refused, passes}
use Rattle.cursor.specs.Check.{checked}
use Rattle.refusal.specs.Refusal.{told, given}
use Rattle.text.specs.Class.{is_ascii}
use Rattle.text.specs.Scan.{run}
use Rattle.std.specs.Prelude.{Result, Ok, Err}
use Rattle.refusal.specs.declared.fault.Refusal.{Refusal}

-- a refusal is one whatever the entry would answer
given_as : {A B : Type 0} (why : Refusal) (n a l : ℕ) → given {A = A} why ≡ refused n a l → given {A = B} why ≡ refused n a l
unfolding given
given_as why n a l e = cc

module _ {A : Type 0} (s : List ℕ) (k : Result (Unit {0}) Refusal) (next : Answer A) (made : told k ≡ checked s passes) where
  pub checked_refused : (why : Refusal) → k ≡ Err why → given why ≡ checked s next
  checked_refused why e = go (ltb 4096 (length s)) (ltb (run is_ascii s) (length s)) (sym (ap told e) ∙ made)
    where
      go : (t u : Bool) → given why ≡ cond t (refused 1 4096 1) (cond u (refused 2 (run is_ascii s) 1) passes) → given why ≡ cond t (refused 1 4096 1) (cond u (refused 2 (run is_ascii s) 1) next)
      go true u h = given_as why 1 4096 1 h
      go false true h = given_as why 2 (run is_ascii s) 1 h
      go false false h = unfold given in cc

  pub checked_good : (z : Answer A) → k ≡ Ok tt → z ≡ next → z ≡ checked s next
  checked_good z e f = go (ltb 4096 (length s)) (ltb (run is_ascii s) (length s)) (sym (ap told e) ∙ made)
    where
      go : (t u : Bool) → passes ≡ cond t (refused 1 4096 1) (cond u (refused 2 (run is_ascii s) 1) passes) → z ≡ cond t (refused 1 4096 1) (cond u (refused 2 (run is_ascii s) 1) next)
      go true u h = cc
      go false true h = cc
      go false false h = f

-- what a line that passed is
pub record Readable (s : List ℕ) : Type 0 where
  pub short : length s ≤ 4096
  pub ascii : run is_ascii s ≡ length s

pub readable : (s : List ℕ) (k : Result (Unit {0}) Refusal) → told k ≡ checked s passes → k ≡ Ok tt → Readable s
readable s k made e = go (ltb 4096 (length s)) (ltb (run is_ascii s) (length s)) refl refl (sym (ap told e) ∙ made)
  where
    go : (t u : Bool) → ltb 4096 (length s) ≡ t → ltb (run is_ascii s) (length s) ≡ u → passes ≡ cond t (refused 1 4096 1) (cond u (refused 2 (run is_ascii s) 1) passes) → Readable s
    go true u p q h = let z : ◌≡◌ {A = ℕ} 0 1 = cc in absurd (omega arith)
    go false true p q h = let z : ◌≡◌ {A = ℕ} 0 1 = cc in absurd (omega arith)
    go false false p q h = record {
      short = ltb-false 4096 (length s) p;
      ascii = omega (arith, run_le is_ascii s, ltb-false (run is_ascii s) (length s) q);
    }

pub ruleset entry = (checked_refused, checked_good)
