-- The comparison numbers of programs and of rows of places, one behind the other. Assumes nothing.
use Prim.Native.Nat.{ℕ, zero, suc, ◌+◌}
use mathlib.Core.Bool.{Bool, true, false, cond}
use mathlib.Core.List.{List, [], ◌∷◌, ◌++◌}
use mathlib.Core.Path.{◌≡◌, refl}
use native.Mathlib.Omega.{arith}
use lib.Dec.{ltb}
use Rattle.program_check.specs.Check.{places}
use Rattle.program_check.specs.Word.{pushes_in}

pub pushes_append : (a b : List ℕ) → pushes_in (a ++ b) ≡ pushes_in a ++ pushes_in b
unfolding pushes_in
pushes_append [] b = refl
pushes_append (x ∷ a) b = rw (pushes_append a b) (go (ltb x 64))
  where
    go : (t : Bool) → cond t (x ∷ (pushes_in a ++ pushes_in b)) (pushes_in a ++ pushes_in b) ≡ cond t (x ∷ pushes_in a) (pushes_in a) ++ pushes_in b
    go true = refl
    go false = refl

pub places_append : (a m n : ℕ) → places a (m + n) ≡ places a m ++ places (a + m) n
places_append a zero n =
    let e : a + 0 ≡ a = omega arith in
    let f : 0 + n ≡ n = omega arith in
    rw (e, f)
places_append a (suc m) n =
    let e : a + suc m ≡ suc a + m = omega arith in
    let f : suc m + n ≡ suc (m + n) = omega arith in
    rw (e, f, places_append (suc a) m n)
