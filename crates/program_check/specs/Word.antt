-- The words of a program, each one byte.
use Rattle.std.specs.Prelude.{ℕ, cond, List, [], ◌∷◌, ltb, eqb}
use Rattle.program_check.specs.declared.word.Word.{Word}
use Rattle.program_check.specs.declared.word.Word.TheVariants.{Push, And, Or, Yes, Unknown}

-- "Words: 0 to 63 push that comparison, 64 is and, 65 is or, 66 pushes yes; others are unknown."
unfoldable pub word : ℕ → Word
word b =
    cond (ltb b 64) (Push (record { 0 = b }))
    (cond (eqb b 64) And
    (cond (eqb b 65) Or
    (cond (eqb b 66) Yes
    Unknown)))

-- "0 to 63 push that comparison": the words that do, in their order
unfoldable pub pushes_in : List ℕ → List ℕ
pushes_in [] = []
pushes_in (b ∷ s) = let rest = pushes_in s in cond (ltb b 64) (b ∷ rest) rest
