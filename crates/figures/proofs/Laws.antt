-- The laws of answers as numbers, for those who put figures behind the place. Assumes nothing.
use mathlib.Core.Path.{◌≡◌, refl}
use mathlib.Core.List.{[], ◌∷◌, ◌++◌}
use Prim.Native.Nat.{ℕ}
use Rattle.std.specs.Prelude.{Result, Ok, Err}
use Rattle.std.specs.Result.{result_unwrap_or}
use Rattle.refusal.specs.Answer.{Answer, good, refused, on_good}
use Rattle.refusal.specs.Refusal.{told, given}
use Rattle.refusal.specs.declared.fault.Refusal.{Refusal}
use Rattle.figures.specs.Numbers.{number_of, place_of, count_figures}

-- number and place are a refusal's, whatever is made of a good answer
module _ {A B : Type 0} (f : A → B) where
  pub number_on_good : (a : Answer A) → number_of (on_good f a) ≡ number_of a
  number_on_good (good x) = refl
  number_on_good (refused number start len) = refl

  pub place_on_good : (a : Answer A) → place_of (on_good f a) ≡ place_of a
  place_on_good (good x) = refl
  place_on_good (refused number start len) = refl

-- behind the place the number that is answered, and 0 on a refusal
pub count_told : (r : Result ℕ Refusal) → place_of (told r) ++ (result_unwrap_or r 0 ∷ []) ≡ count_figures (told r)
unfolding given
count_told (Ok n) = refl
count_told (Err why) = refl

-- or a number made of what is answered
pub count_made : {A : Type 0} (f : A → ℕ) (other : A) → f other ≡ 0 → (r : Result A Refusal) → place_of (told r) ++ (f (result_unwrap_or r other) ∷ []) ≡ count_figures (on_good f (told r))
unfolding given
count_made f other none (Ok x) = refl
count_made f other none (Err why) = rw none
