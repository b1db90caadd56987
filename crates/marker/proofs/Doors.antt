-- For the two doors: what the reading of a marker, and the check that comes first, make of an answer. Assumes nothing.
use mathlib.Core.Path.{◌≡◌, sym, ap}
use mathlib.Core.List.{List}
use Prim.Native.Nat.{ℕ}
use native.Mathlib.Omega.{arith}
use Rattle.cursor.proofs.Checks.{checked_refused, checked_good}
use Rattle.cursor.specs.Check.{checked}
use Rattle.marker.specs.Answer.{answered, marker_answer, entry_answer}
use Rattle.marker_steps.specs.Grammar.{Parsed, got, fault, parse_from}
use Rattle.marker_steps.specs.declared.part.Part.{Part}
use Rattle.marker_steps.specs.inner.Steps.{State, stopped, whole_of}
use Rattle.refusal.specs.Answer.{Answer, on_good, passes}
use Rattle.refusal.specs.Refusal.{told, given}
use Rattle.refusal.specs.declared.fault.Refusal.{Refusal}
use Rattle.std.specs.Prelude.{Result, Ok, Err}

-- a marker whose reading is refused is answered so
pub marker_refused : (s : List ℕ) (at : ℕ) (why : Refusal) → stopped why ≡ whole_of (parse_from s at) → marker_answer s at ≡ given why
unfolding whole_of
marker_refused s at why h = go (parse_from s at) h
  where
    go : (q : Parsed) → stopped why ≡ whole_of q → answered q ≡ given why
    go (got t d) g =
        let z = ap (λ (z : State). z.part) g in
        let y : ◌≡◌ {A = ℕ} 0 1 = cc in absurd (omega arith)
    go (fault what) g =
        let z : ◌≡◌ {A = Result Part Refusal} (Err why) (Err what) = ap (λ (z : State). z.part) g in
        let y : what ≡ why = cc in
        ap given y

-- a refusal is told so whatever a good answer would be told as
pub refused_told : {A B : Type 0} (f : A → B) (a : Answer A) (why : Refusal) → a ≡ given why → given why ≡ on_good f a
unfolding given
refused_told f a why e = rw e

-- a line that passes the check is answered as its marker is, and another as the check refuses it
module _ (s : List ℕ) (k : Result (Unit {0}) Refusal) (passed : told k ≡ checked s passes) where
  pub good_answer : {n : ℕ} → k ≡ Ok tt → n ≡ 0 → marker_answer s n ≡ entry_answer s
  good_answer e z = checked_good s k (marker_answer s 0) passed (marker_answer s _) e (rw z)

  pub bad_answer : {why : Refusal} → k ≡ Err why → entry_answer s ≡ given why
  bad_answer {why} e = sym (checked_refused s k (marker_answer s 0) passed why e)
