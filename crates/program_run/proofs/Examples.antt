-- Worked examples: some runs. One table, and one statement over it. Assumes nothing.
use mathlib.Core.Bool.{Bool, true, false}
use mathlib.Core.List.{List, [], ◌∷◌, map}
use mathlib.Core.Path.{◌≡◌, refl}
use Prim.Native.Nat.{ℕ, ◌-◌, ◌^◌}
use Rattle.refusal.specs.Answer.{Answer, good, refused}
use Rattle.text.specs.Scan.{run}
use Rattle.program_check.specs.Check.{fault_at}
use Rattle.program_check.specs.Rules.{height}
use Rattle.program_check.specs.Tree.{fold, trees, tree_of}
use Rattle.program_check.specs.Word.{word}
use Rattle.program_laws.proofs.Examples.{chain, tower}
use Rattle.program_run.specs.Run.{bit, ran}

-- a program, a count, an assignment, and what the runner answers
abbrev pub runs : List (List ℕ × ℕ × ℕ × Answer Bool)
runs =
    (66 ∷ [], 0, 0, good true)
    ∷ (0 ∷ [], 1, 0, good false)
    ∷ (0 ∷ [], 1, 1, good true)
    ∷ (0 ∷ [], 1, 2, good false)
    ∷ (0 ∷ [], 1, 2 ^ 64 - 2, good false)
    ∷ (0 ∷ [], 1, 2 ^ 64 - 1, good true)
    ∷ (63 ∷ [], 64, 2 ^ 63, good true)
    ∷ (63 ∷ [], 64, 2 ^ 63 - 1, good false)
    ∷ (0 ∷ 1 ∷ 64 ∷ [], 2, 0, good false)
    ∷ (0 ∷ 1 ∷ 64 ∷ [], 2, 1, good false)
    ∷ (0 ∷ 1 ∷ 64 ∷ [], 2, 2, good false)
    ∷ (0 ∷ 1 ∷ 64 ∷ [], 2, 3, good true)
    ∷ (0 ∷ 1 ∷ 65 ∷ [], 2, 0, good false)
    ∷ (0 ∷ 1 ∷ 65 ∷ [], 2, 1, good true)
    ∷ (0 ∷ 1 ∷ 65 ∷ [], 2, 2, good true)
    ∷ (0 ∷ 1 ∷ 65 ∷ [], 2, 3, good true)
    ∷ (0 ∷ 1 ∷ 2 ∷ 64 ∷ 65 ∷ [], 3, 1, good true)
    ∷ (0 ∷ 1 ∷ 2 ∷ 64 ∷ 65 ∷ [], 3, 2, good false)
    ∷ (0 ∷ 1 ∷ 65 ∷ 2 ∷ 64 ∷ [], 3, 1, good false)
    ∷ (0 ∷ 1 ∷ 65 ∷ 2 ∷ 64 ∷ [], 3, 5, good true)
    ∷ (0 ∷ 0 ∷ 64 ∷ 66 ∷ 64 ∷ [], 1, 1, good true)
    ∷ (chain 63, 0, 0, good true)
    ∷ (tower 35, 0, 0, good true)
    ∷ (tower 36, 0, 0, refused 30 35 1)
    ∷ ([], 0, 0, refused 30 0 1)
    ∷ (0 ∷ [], 65, 1, refused 31 0 1)
    ∷ []

pub holds : map (λ e. ran e.0 e.1 e.2) runs ≡ map (λ e. e.3) runs
unfolding fault_at height word run bit trees tree_of fold
holds = refl
