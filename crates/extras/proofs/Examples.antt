-- Worked examples: document 01's cases, the corners of DECISIONS, both sides of 32. A table, and one statement over it. Assumes nothing.
use mathlib.Core.List.{List, [], ◌∷◌, ◌++◌, map}
use mathlib.Core.Path.{◌≡◌, refl}
use Prim.Native.Nat.{ℕ, zero, suc, ◌+◌}
use lib.ListN.{replicate}
use Rattle.arrays.specs.Front.{onto}
use Rattle.refusal.specs.Answer.{Answer, good, refused}
use Rattle.refusal.specs.Refusal.{span, given}
use Rattle.text.specs.Scan.{run, skip}
use Rattle.text.specs.Word.{bytes}
use Rattle.refusal.specs.declared.place.Span.{Span}
use Rattle.spans.specs.Flat.{flat}
use Rattle.spans.specs.Listing.{list_from, spans_in, outcome}
use Rattle.extras.specs.Entry.{entry, written}
use Rattle.line_extras.specs.Extra.{item_at}
use Rattle.line_extras.specs.Extras.{extras_at}

-- `[` and n extras, each with its comma
abbrev pub times : ℕ → List ℕ → List ℕ
times zero l = []
times (suc n) l = l ++ times n l

abbrev pub some : ℕ → List ℕ
some n = bytes "[" ++ times n (bytes "a,")

-- their spans: n from a place on, one byte each
abbrev pub ones : ℕ → ℕ → List Span
ones zero at = []
ones (suc n) at = span at 1 ∷ ones n (at + 2)

-- a text, and what the entry answers
abbrev pub texts : List (List ℕ × Answer (List Span))
texts =
    (bytes "[,", refused 7 1 1)
    ∷ (bytes "[ ,a]", refused 7 2 1)
    ∷ (bytes "[a,]", refused 8 3 1)
    ∷ (bytes "[-a]", refused 8 1 1)
    ∷ (bytes "[a,,b]", refused 8 3 1)
    ∷ (bytes "[a-]", refused 11 2 1)
    ∷ (bytes "[a-", refused 11 2 1)
    ∷ (bytes "[a._ ,b]", refused 11 3 1)
    ∷ (bytes "[a b]", refused 9 3 1)
    ∷ (bytes "[a, b [c]]", refused 9 6 1)
    ∷ (bytes "[a!]", refused 10 2 1)
    ∷ (bytes "[a-[", refused 10 3 1)
    ∷ (bytes "[", refused 6 0 1)
    ∷ (bytes "[a", refused 6 0 1)
    ∷ (bytes "[a, ", refused 6 0 1)
    ∷ (bytes "[]", good [])
    ∷ (bytes "[ ]", good [])
    ∷ (bytes "", good [])
    ∷ (bytes "x", good [])
    ∷ (bytes " [a]", good [])
    ∷ (bytes "[a]!,-[", good (span 1 1 ∷ []))
    ∷ (bytes "[a,a]", good (span 1 1 ∷ span 3 1 ∷ []))
    ∷ (bytes "[ a-b , B.2_c ]", good (span 2 3 ∷ span 8 5 ∷ []))
    ∷ (bytes "[a]" ++ (128 ∷ []), refused 2 3 1)
    ∷ (bytes "[," ++ (255 ∷ []), refused 2 2 1)
    ∷ (some 31 ++ bytes "a]", good (ones 32 1))
    ∷ (some 32 ++ bytes "a]", refused 12 65 1)
    ∷ (some 32 ++ bytes "ab", refused 12 65 2)
    ∷ (some 32 ++ bytes "a-", refused 11 66 1)
    ∷ (some 32 ++ bytes "a-!", refused 10 67 1)
    ∷ (some 32 ++ bytes "]", refused 8 65 1)
    ∷ (some 32, refused 6 0 1)
    ∷ (bytes "[]" ++ replicate 4094 120, good [])
    ∷ (bytes "[]" ++ replicate 4095 120, refused 1 4096 1)
    ∷ []

pub holds : (map (λ e. entry e.0) texts ≡ map (λ e. e.1) texts) × (written (entry (bytes "[,")) (7 ∷ 8 ∷ []) ≡ 7 ∷ 8 ∷ [])
unfolding run skip given item_at list_from spans_in outcome extras_at flat onto
holds = (refl, refl)
