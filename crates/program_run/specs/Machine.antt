-- Running as a machine of 35 slots, which can lack a value or a slot. It is stated over any sort of values: `saying env` makes them yes and no.
use Rattle.std.specs.Prelude.{ℕ, cond, List, [], ◌∷◌, ◌≡◌, ltb, length}
use Rattle.program_check.specs.Rules.{max_slots}
use Rattle.program_check.specs.Tree.{Sense, fold, tree_of}
use Rattle.program_check.specs.Word.{word}
use Rattle.program_check.specs.declared.word.Word.{Word}
use Rattle.program_check.specs.declared.word.Word.TheVariants.{Push, And, Or, Yes, Unknown}

-- the values that stand, the latest first; or what was lacking
pub data State (A : Type 0) : Type 0 where
  stands : List A → State A
  lacks_value : State A
  lacks_slot : State A
  lacks_meaning : State A

-- "at most 35 stand at any time"
abbrev pub pushed : {A : Type 0} → A → List A → State A
pushed v st = cond (ltb (length st) max_slots) (stands (v ∷ st)) lacks_slot

-- "an operator finds at least two values"; the older is the left side's
abbrev pub operated : {A : Type 0} → (A → A → A) → List A → State A
operated f [] = lacks_value
operated f (y ∷ []) = lacks_value
operated f (y ∷ (x ∷ st)) = stands (f x y ∷ st)

-- "0 to 63 push that comparison, 64 is and, 65 is or, 66 pushes yes"
abbrev pub obeyed : {A : Type 0} → Sense A → Word → List A → State A
obeyed m (Push k) st = pushed (m.number k.0) st
obeyed m And st = operated m.both st
obeyed m Or st = operated m.either st
obeyed m Yes st = pushed m.yes st
obeyed m Unknown st = lacks_meaning

-- what comes next, if nothing is lacking
abbrev pub if_stands : {A : Type 0} → State A → (List A → State A) → State A
if_stands (stands st) f = f st
if_stands lacks_value f = lacks_value
if_stands lacks_slot f = lacks_slot
if_stands lacks_meaning f = lacks_meaning

-- the words one after the other, to the first that lacks something
unfoldable pub steps : {A : Type 0} → Sense A → List ℕ → List A → State A
steps m [] st = stands st
steps m (b ∷ s) st = if_stands (obeyed m (word b) st) (steps m s)

-- it ends with one value, what the program's tree comes to
abbrev pub Ends : {A : Type 0} → Sense A → List ℕ → Type 0
Ends m s = steps m s [] ≡ stands (fold m (tree_of s) ∷ [])
