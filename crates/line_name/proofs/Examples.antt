-- Worked examples: a table, and one statement over it. Assumes nothing.
use mathlib.Core.List.{List, [], ◌∷◌, map}
use mathlib.Core.Path.{◌≡◌, refl}
use Prim.Native.Nat.{ℕ}
use Rattle.refusal.specs.Answer.{Answer, good, refused}
use Rattle.refusal.specs.Refusal.{span}
use Rattle.text.specs.Scan.{run, skip}
use Rattle.text.specs.Word.{bytes}
use Rattle.refusal.specs.declared.place.Span.{Span}
use Rattle.line_name.specs.Name.{name_at}

-- a line, the name's span and the place behind it
abbrev pub table : List (List ℕ × Answer (Span × ℕ))
table =
    (bytes "", refused 3 0 1)
    ∷ (bytes "  ", refused 3 0 1)
    ∷ (bytes "-a", refused 4 0 1)
    ∷ (bytes " ./foo", refused 4 1 1)
    ∷ (bytes "[a]", refused 4 0 1)
    ∷ (bytes "foo-;", refused 5 3 1)
    ∷ (bytes "foo-", refused 5 3 1)
    ∷ (bytes " a._>1", refused 5 3 1)
    ∷ (bytes "A", good (span 0 1, 1))
    ∷ (bytes "name", good (span 0 4, 4))
    ∷ (bytes " a.b-_c9[x]", good (span 1 7, 8))
    ∷ (bytes "name<=1", good (span 0 4, 4))
    ∷ (bytes "9 @ x", good (span 0 1, 1))
    ∷ (bytes "a b", good (span 0 1, 1))
    ∷ []

pub holds : map (λ e. name_at e.0) table ≡ map (λ e. e.1) table
unfolding run skip name_at
holds = refl
