-- Worked examples: each rule broken alone and each at its limit, and some trees. Two tables, and one statement over them. Assumes nothing.
use mathlib.Core.List.{List, [], ◌∷◌, ◌++◌, map}
use mathlib.Core.Path.{◌≡◌, refl}
use Prim.Native.Nat.{ℕ, zero, suc, ◌-◌, ◌^◌}
use lib.ListN.{replicate}
use Rattle.refusal.specs.Answer.{Answer, refused, passes}
use Rattle.text.specs.Scan.{run}
use Rattle.program_check.specs.Check.{fault_at, checked_program}
use Rattle.program_check.specs.Rules.{height}
use Rattle.program_check.specs.Tree.{Tree, leaf, leaf_yes, and, or, postfix, trees, tree_of}
use Rattle.program_check.specs.Word.{word}

-- yes, and n times yes with `and`: 1 + 2 n words on two slots
abbrev pub chain : ℕ → List ℕ
chain zero = 66 ∷ []
chain (suc n) = chain n ++ (66 ∷ 64 ∷ [])

-- n times yes, then all joined: n slots
abbrev pub tower : ℕ → List ℕ
tower n = replicate n 66 ++ replicate (n - 1) 65

-- a program, a count, and what the check answers
abbrev pub checks : List (List ℕ × ℕ × Answer (Unit {0}))
checks =
    ([], 0, refused 30 0 1)
    ∷ (66 ∷ [], 0, passes)
    ∷ (0 ∷ [], 1, passes)
    ∷ (0 ∷ [], 0, refused 30 0 1)
    ∷ (63 ∷ [], 64, passes)
    ∷ (63 ∷ [], 63, refused 30 0 1)
    ∷ (63 ∷ [], 65, refused 31 0 1)
    ∷ ([], 65, refused 31 0 1)
    ∷ (255 ∷ [], 2 ^ 64 - 1, refused 31 0 1)
    ∷ (67 ∷ [], 64, refused 30 0 1)
    ∷ (255 ∷ [], 64, refused 30 0 1)
    ∷ (0 ∷ 1 ∷ 67 ∷ 64 ∷ [], 2, refused 30 2 1)
    ∷ (64 ∷ [], 64, refused 30 0 1)
    ∷ (65 ∷ [], 64, refused 30 0 1)
    ∷ (66 ∷ 64 ∷ [], 64, refused 30 1 1)
    ∷ (66 ∷ 65 ∷ [], 64, refused 30 1 1)
    ∷ (0 ∷ 1 ∷ 64 ∷ [], 2, passes)
    ∷ (0 ∷ 1 ∷ 2 ∷ 64 ∷ 65 ∷ [], 3, passes)
    ∷ (0 ∷ 1 ∷ 64 ∷ 64 ∷ [], 2, refused 30 3 1)
    ∷ (0 ∷ 2 ∷ 64 ∷ [], 2, refused 30 1 1)
    ∷ (66 ∷ 66 ∷ [], 0, refused 30 2 1)
    ∷ (0 ∷ 1 ∷ 2 ∷ 64 ∷ [], 3, refused 30 4 1)
    ∷ (chain 63, 0, passes)
    ∷ (chain 62 ++ (66 ∷ []), 0, refused 30 126 1)
    ∷ (chain 63 ++ (66 ∷ []), 0, refused 30 127 1)
    ∷ (chain 64, 0, refused 30 127 1)
    ∷ (chain 63 ++ (67 ∷ []), 0, refused 30 127 1)
    ∷ (chain 64 ++ (67 ∷ []), 65, refused 31 0 1)
    ∷ (64 ∷ chain 64, 0, refused 30 0 1)
    ∷ (tower 35, 0, passes)
    ∷ (tower 36, 0, refused 30 35 1)
    ∷ (replicate 35 66, 0, refused 30 35 1)
    ∷ (replicate 36 66, 0, refused 30 35 1)
    ∷ (replicate 35 63, 64, refused 30 35 1)
    ∷ (replicate 36 63, 64, refused 30 35 1)
    ∷ []

-- a program and its tree
abbrev pub shapes : List (List ℕ × Tree)
shapes =
    (66 ∷ [], leaf_yes)
    ∷ (0 ∷ 1 ∷ 64 ∷ [], and (leaf 0) (leaf 1))
    ∷ (0 ∷ 1 ∷ 2 ∷ 64 ∷ 65 ∷ [], or (leaf 0) (and (leaf 1) (leaf 2)))
    ∷ (0 ∷ 1 ∷ 64 ∷ 2 ∷ 65 ∷ [], or (and (leaf 0) (leaf 1)) (leaf 2))
    ∷ []

pub holds : (map (λ e. checked_program e.0 e.1) checks ≡ map (λ e. e.2) checks)
    × (map (λ e. tree_of e.0) shapes ≡ map (λ e. e.1) shapes)
    × (map (λ e. postfix e.1) shapes ≡ map (λ e. e.0) shapes)
unfolding fault_at height word run trees tree_of postfix
holds = (refl, refl, refl)
