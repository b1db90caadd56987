-- What an entry answers, in the documents' terms, and the maps over answers.
use Rattle.std.specs.Prelude.{ℕ}

-- "A refusal carries number, start, length and nothing else"
pub data Answer (A : Type 0) : Type 0 where
  good : A → Answer A
  refused : ℕ → ℕ → ℕ → Answer A

-- nothing to say but that it is good
abbrev pub passes : Answer (Unit {0})
passes = good tt

-- another value in place of a good answer's
abbrev pub on_good : {A B : Type 0} → (A → B) → Answer A → Answer B
on_good f (good a) = good (f a)
on_good f (refused number start len) = refused number start len

-- whether an answer is good
abbrev pub outcome_of : {A : Type 0} → Answer A → Answer (Unit {0})
outcome_of a = on_good (λ x. tt) a

-- what comes next if an answer is good: the first fault is the answer
abbrev pub and_then : {A B : Type 0} → Answer A → (A → Answer B) → Answer B
and_then (good a) next = next a
and_then (refused number start len) next = refused number start len

-- a good answer's value, and another on a refusal
abbrev pub good_or : {A : Type 0} → A → Answer A → A
good_or other (good a) = a
good_or other (refused number start len) = other
