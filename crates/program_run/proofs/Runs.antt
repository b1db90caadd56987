-- The laws of a runner's slots, which answer its loop, for any sort of values. Assumes nothing.
use mathlib.Core.Path.{◌≡◌, sym, ap, ◌∙◌}
use mathlib.Core.List.{List, [], ◌∷◌, ◌++◌, reverse}
use Prim.Native.Nat.{ℕ, ◌+◌, ◌≤◌, ◌<◌}
use native.Mathlib.Numerals.{add-one}
use native.Mathlib.Omega.{arith}
use lib.ListN.{length, length-append, drop, drop_of_length-le}
use lib.Seq.{drop-cons}
use Rattle.std.proofs.lemmas.List.{reverse-reverse}
use Rattle.text.specs.Scan.{byte_at}
use Rattle.program_run.specs.inner.Obeying.{IsStanding}
use Rattle.program_run.specs.Machine.{State, stands, lacks_value, lacks_slot, lacks_meaning, obeyed, if_stands, steps}
use Rattle.program_check.specs.Rules.{max_slots}
use Rattle.program_check.specs.Tree.{Sense}
use Rattle.program_check.specs.Word.{word}
use Rattle.program_check.specs.declared.word.Word.{Word}

-- two values taken leave room for one
pub room_left : {A : Type 0} (items rest : List A) (x y : A) → items ≡ rest ++ x ∷ y ∷ [] → length items ≤ max_slots → length rest + 2 ≤ max_slots
room_left items rest x y e l = let n = ap length e ∙ length-append rest (x ∷ y ∷ []) in omega arith

-- the loop of a runner: from the values that stand, the words still to come leave v alone
pub record Running {A : Type 0} (m : Sense A) (s : List ℕ) (v : A) (items : List A) (at : ℕ) : Type 0 where
  pub rest : steps m (drop at s) (reverse items) ≡ stands (v ∷ [])
  pub few : length items ≤ max_slots

module _ {A : Type 0} (m : Sense A) (s : List ℕ) (v : A) (items : List A) (at : ℕ) (inv : Running m s v items at) where
  module _ (w : Word) (l : at < length s) (made : w ≡ word (byte_at s at)) where
    now : if_stands (obeyed m w (reverse items)) (steps m (drop (at + 1) s)) ≡ stands (v ∷ [])
    unfolding steps
    now = rw (made, add-one) (rw (drop-cons s at 0 l) at inv.rest)

    pub word_finds : IsStanding (obeyed m w (reverse items))
    word_finds = go (obeyed m w (reverse items)) now
      where
        go : (x : State A) → if_stands x (steps m (drop (at + 1) s)) ≡ stands (v ∷ []) → IsStanding x
        go (stands st) e = tt
        go lacks_value e = let z : ◌≡◌ {A = ℕ} 0 1 = cc in absurd (omega arith)
        go lacks_slot e = let z : ◌≡◌ {A = ℕ} 0 1 = cc in absurd (omega arith)
        go lacks_meaning e = let z : ◌≡◌ {A = ℕ} 0 1 = cc in absurd (omega arith)

    pub word_turn : (next : List A) → obeyed m w (reverse items) ≡ stands (reverse next) → length next ≤ max_slots → Running m s v next (at + 1)
    word_turn next e few = record { rest = rw e at now; few = few }

  pub run_end : length s ≤ at → items ≡ v ∷ []
  unfolding steps
  run_end l =
      let e : stands (reverse items) ≡ stands (v ∷ []) = rw (drop_of_length-le s l) at inv.rest in
      let one : reverse items ≡ v ∷ [] = cc in
      sym (reverse-reverse items) ∙ ap reverse one
