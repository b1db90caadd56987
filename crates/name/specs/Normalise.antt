-- What the normaliser answers, and what the output holds afterwards.
use Rattle.std.specs.Prelude.{ℕ, cond, List, ltb, length}
use Rattle.arrays.specs.Front.{onto}
use Rattle.refusal.specs.Answer.{Answer, good, refused}
use Rattle.name.specs.Normal.{normal, bad_at}

-- "the normaliser only 28 and 29", "28 before 29"; else how long the normal form is
abbrev pub normalised : List ℕ → ℕ → Answer ℕ
normalised s room =
    cond (ltb (bad_at s) (length s)) (refused 28 (bad_at s) 1)
    (cond (ltb room (length (normal s))) (refused 29 0 1)
    (good (length (normal s))))

-- "Success writes the normal form at the output's front; the rest stays." A refusal leaves all as it was.
abbrev pub after : Answer ℕ → List ℕ → List ℕ → List ℕ
after (good n) s out = onto (normal s) out
after (refused number start len) s out = out

abbrev pub output : List ℕ → List ℕ → List ℕ
output s out = after (normalised s (length out)) s out
