-- The height that a program reaches does not depend on the assignment. Assumes nothing.
use mathlib.Core.Path.{◌≡◌}
use mathlib.Core.Bool.{Bool, true, false, cond}
use mathlib.Core.List.{List, [], ◌∷◌}
use Prim.Native.Nat.{ℕ}
use native.Mathlib.Omega.{arith}
use lib.Dec.{ltb}
use lib.ListN.{length}
use Rattle.program_run.specs.Machine.{State, stands, lacks_value, lacks_slot, lacks_meaning, pushed, operated, obeyed, if_stands, steps}
use Rattle.program_check.specs.Rules.{max_slots}
use Rattle.program_check.specs.Tree.{Sense}
use Rattle.program_check.specs.Word.{word}
use Rattle.program_check.specs.declared.word.Word.{Word}
use Rattle.program_check.specs.declared.word.Word.TheVariants.{Push, And, Or, Yes, Unknown}

-- two states with as many values, or with the same lack
pub data Alike {A B : Type 0} : State A → State B → Type 0 where
  standing : (st : List A) (us : List B) → length st ≡ length us → Alike (stands st) (stands us)
  no_value : Alike lacks_value lacks_value
  no_slot : Alike lacks_slot lacks_slot
  no_meaning : Alike lacks_meaning lacks_meaning

alike_then : {A B : Type 0} (x : State A) (y : State B) (f : List A → State A) (g : List B → State B) → Alike x y → ((st : List A) (us : List B) → length st ≡ length us → Alike (f st) (g us)) → Alike (if_stands x f) (if_stands y g)
alike_then x y f g (standing st us e) h = h st us e
alike_then x y f g no_value h = no_value
alike_then x y f g no_slot h = no_slot
alike_then x y f g no_meaning h = no_meaning

module _ {A B : Type 0} (m : Sense A) (n : Sense B) where
  push_alike : (v : A) (u : B) (st : List A) (us : List B) → length st ≡ length us → Alike (pushed v st) (pushed u us)
  push_alike v u st us e = rw (← e) (go (ltb (length st) max_slots))
    where
      go : (t : Bool) → Alike (cond t (stands (v ∷ st)) lacks_slot) (cond t (stands (u ∷ us)) lacks_slot)
      go true = standing (v ∷ st) (u ∷ us) (omega arith)
      go false = no_slot

  operate_alike : (f : A → A → A) (g : B → B → B) (st : List A) (us : List B) → length st ≡ length us → Alike (operated f st) (operated g us)
  operate_alike f g [] [] e = no_value
  operate_alike f g [] (u ∷ us) e = absurd (omega arith)
  operate_alike f g (v ∷ []) [] e = absurd (omega arith)
  operate_alike f g (v ∷ []) (u ∷ []) e = no_value
  operate_alike f g (v ∷ []) (u ∷ (x ∷ us)) e = absurd (omega arith)
  operate_alike f g (v ∷ (y ∷ st)) [] e = absurd (omega arith)
  operate_alike f g (v ∷ (y ∷ st)) (u ∷ []) e = absurd (omega arith)
  operate_alike f g (v ∷ (y ∷ st)) (u ∷ (x ∷ us)) e = standing (f y v ∷ st) (g x u ∷ us) (omega arith)

  obey_alike : (w : Word) (st : List A) (us : List B) → length st ≡ length us → Alike (obeyed m w st) (obeyed n w us)
  obey_alike (Push k) st us e = push_alike (m.number k.0) (n.number k.0) st us e
  obey_alike And st us e = operate_alike m.both n.both st us e
  obey_alike Or st us e = operate_alike m.either n.either st us e
  obey_alike Yes st us e = push_alike m.yes n.yes st us e
  obey_alike Unknown st us e = no_meaning

  -- whatever the program: after it, or any part of it, as many values stand, or the same is lacking
  pub steps_alike : (s : List ℕ) (st : List A) (us : List B) → length st ≡ length us → Alike (steps m s st) (steps n s us)
  unfolding steps
  steps_alike [] st us e = standing st us e
  steps_alike (b ∷ s) st us e = alike_then (obeyed m (word b) st) (obeyed n (word b) us) (steps m s) (steps n s) (obey_alike (word b) st us e) (steps_alike s)
