-- A comparison and a warning in numbers, and the n-th of them in an array.
use Rattle.std.specs.Prelude.{ℕ, ◌+◌, ◌*◌, List, [], ◌∷◌, ◌++◌, get_or}
use Rattle.std.proofs.lemmas.List.Edits.{sets}
use Rattle.marker_kind.specs.Code.{operator_code, sort_code, key_code, sort_of, key_of, operator_of}
use Rattle.marker_kind.specs.declared.kind.Comparison.{Comparison}
use Rattle.marker_store.specs.Room.{comparison_width, sort_place, key_place, operator_place, literal_start, literal_length, warning_width, kind_place, span_start, span_length}
use Rattle.marker_store.specs.declared.marks.Counts.{Counts}
use Rattle.marker_store.specs.declared.marks.Warning.{Warning}
use Rattle.refusal.specs.Refusal.{span}

-- a comparison: the code of its sort, of its key and of its operator, where its literal starts and how long that is
abbrev pub comparison_numbers : Comparison → List ℕ
comparison_numbers c = sort_code c.sort ∷ key_code c.key ∷ operator_code c.operator ∷ c.literal.start.0 ∷ c.literal.len ∷ []

-- a warning: its kind, where its span starts and how long that is
abbrev pub warning_numbers : Warning → List ℕ
warning_numbers w = w.kind ∷ w.span.start.0 ∷ w.span.len ∷ []

-- of all, one behind the other
unfoldable pub all_numbers : {A : Type 0} → (A → List ℕ) → List A → List ℕ
all_numbers f [] = []
all_numbers f (x ∷ xs) = f x ++ all_numbers f xs

-- an array with the n-th comparison, and the n-th warning, written at its place
unfoldable pub put_comparison : List ℕ → ℕ → Comparison → List ℕ
put_comparison l n c = sets l (comparison_width * n) (comparison_numbers c)

unfoldable pub put_warning : List ℕ → ℕ → Warning → List ℕ
put_warning l n w = sets l (warning_width * n) (warning_numbers w)

-- the n-th comparison, and the n-th warning, that an array holds
unfoldable pub comparison_in : List ℕ → ℕ → Comparison
comparison_in l n = record {
  sort = sort_of (get_or l (comparison_width * n + sort_place) 0);
  key = key_of (get_or l (comparison_width * n + key_place) 0);
  operator = operator_of (get_or l (comparison_width * n + operator_place) 0);
  literal = span (get_or l (comparison_width * n + literal_start) 0) (get_or l (comparison_width * n + literal_length) 0);
}

unfoldable pub warning_in : List ℕ → ℕ → Warning
warning_in l n = record {
  kind = get_or l (warning_width * n + kind_place) 0;
  span = span (get_or l (warning_width * n + span_start) 0) (get_or l (warning_width * n + span_length) 0);
}

-- nothing kept, no warning, no word
abbrev pub no_counts : Counts
no_counts = record { kept = 0; warned = 0; words = 0 }
