-- A list of spans in an array: as numbers, two for each span, or as spans.
use Rattle.std.specs.Prelude.{ℕ, zero, suc, ◌+◌, ◌*◌, List, [], ◌∷◌, drop, get_or, set}
use Rattle.arrays.specs.Front.{onto, pad}
use Rattle.cursor.specs.Limits.{max_list}
use Rattle.refusal.specs.Refusal.{span}
use Rattle.refusal.specs.declared.place.Span.{Span}

-- "Spans are a start and a length": so many numbers for each, and for a full list
abbrev pub span_numbers : ℕ
span_numbers = 2

abbrev pub list_numbers : ℕ
list_numbers = span_numbers * max_list

-- the numbers of a list of spans
unfoldable pub flat : List Span → List ℕ
flat [] = []
flat (x ∷ l) = x.start.0 ∷ x.len ∷ flat l

-- these over the front of an array, whose rest stays as it was
abbrev pub spans_onto : List Span → List ℕ → List ℕ
spans_onto l old = onto (flat l) old

-- one span stored at the place of the nth
unfoldable pub stored : List ℕ → ℕ → Span → List ℕ
stored list n x = set (set list (span_numbers * n) x.start.0) (span_numbers * n + 1) x.len

-- the nth span that an array of numbers holds, and the first n
abbrev pub span_at : List ℕ → ℕ → Span
span_at list n = span (get_or list (span_numbers * n) 0) (get_or list (span_numbers * n + 1) 0)

unfoldable pub loaded : ℕ → List ℕ → List Span
loaded zero list = []
loaded (suc n) list = span_at list 0 ∷ loaded n (drop span_numbers list)

-- what stands in an array of spans past the count
abbrev pub filler : Span
filler = span 0 0

-- a list of spans in its array
abbrev pub padded : List Span → List Span
padded l = pad max_list filler l
