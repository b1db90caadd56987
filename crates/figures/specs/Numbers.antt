-- An answer as numbers: what a function of `gateway` returns, and what it leaves in `figures` first.
use Rattle.std.specs.Prelude.{ℕ, List, [], ◌∷◌, ◌++◌}
use Rattle.refusal.specs.Answer.{Answer, good, refused, good_or}

-- what is returned: the refusal's number, or 0
abbrev pub number_of : {A : Type 0} → Answer A → ℕ
number_of (good x) = 0
number_of (refused number start len) = number

-- the first two figures: the refusal's start and length, or 0 and 0
abbrev pub place_of : {A : Type 0} → Answer A → List ℕ
place_of (good x) = 0 ∷ 0 ∷ []
place_of (refused number start len) = start ∷ len ∷ []

-- the three figures of an answer that is one number: behind the place the number, and 0 on a refusal
abbrev pub count_figures : Answer ℕ → List ℕ
count_figures a = place_of a ++ (good_or 0 a ∷ [])
