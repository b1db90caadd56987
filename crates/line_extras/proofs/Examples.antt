-- Worked examples of extras at a place of a line. A table, and one statement over it. Assumes nothing.
use mathlib.Core.List.{List, [], ◌∷◌, map}
use mathlib.Core.Path.{◌≡◌, refl}
use Prim.Native.Nat.{ℕ}
use Rattle.arrays.specs.Front.{onto}
use Rattle.refusal.specs.Answer.{Answer, good, refused}
use Rattle.refusal.specs.Refusal.{given}
use Rattle.text.specs.Scan.{run, skip}
use Rattle.text.specs.Word.{bytes}
use Rattle.spans.specs.Flat.{flat}
use Rattle.spans.specs.Listing.{read_onto, list_from, spans_in, outcome, counted}
use Rattle.line_extras.specs.Extra.{item_at}
use Rattle.line_extras.specs.Extras.{extras_at}

-- a line, a place, how many extras start there and where reading goes on, and what an array of three numbers then holds
abbrev pub places : List (List ℕ × ℕ × Answer (ℕ × ℕ) × List ℕ)
places =
    (bytes "ab [c , de] >1", 3, good (2, 11), 4 ∷ 1 ∷ 8 ∷ [])
    ∷ (bytes "ab >1", 3, good (0, 3), 7 ∷ 8 ∷ 9 ∷ [])
    ∷ (bytes "ab[c!]", 2, refused 10 4 1, 7 ∷ 8 ∷ 9 ∷ [])
    ∷ (bytes "ab[c,de", 2, refused 6 2 1, 3 ∷ 1 ∷ 5 ∷ [])
    ∷ []

pub holds : (map (λ e. counted (extras_at e.0 e.1)) places ≡ map (λ e. e.2) places)
    × (map (λ e. read_onto (extras_at e.0 e.1) (7 ∷ 8 ∷ 9 ∷ [])) places ≡ map (λ e. e.3) places)
unfolding run skip given item_at list_from spans_in outcome extras_at flat onto
holds = (refl, refl)
