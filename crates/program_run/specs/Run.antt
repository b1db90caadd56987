-- What the runner answers.
use Rattle.std.specs.Prelude.{ℕ, ◌/◌, ◌%◌, ◌^◌, Bool, List, eqb}
use Rattle.refusal.specs.Answer.{Answer, on_good}
use Rattle.program_check.specs.Check.{checked_program}
use Rattle.program_check.specs.Tree.{value, tree_of}

-- "An assignment is 64 bits, bit k for comparison k"
unfoldable pub bit : ℕ → ℕ → Bool
bit assignment k = eqb (assignment / 2 ^ k % 2) 1

-- "The runner checks its program first and refuses as the check does."
abbrev pub ran : List ℕ → ℕ → ℕ → Answer Bool
ran s count assignment = on_good (λ ok. value (bit assignment) (tree_of s)) (checked_program s count)
