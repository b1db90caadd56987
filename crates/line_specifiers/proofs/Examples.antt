-- Worked examples: document 01's rules, the corners of DECISIONS, both sides of 32. Two tables, and one statement over them. Only here, to compute, are
-- the version rules opened. Assumes nothing.
use mathlib.Core.List.{List, [], ◌∷◌, ◌++◌, map}
use mathlib.Core.Path.{◌≡◌, refl}
use Prim.Native.Nat.{ℕ, zero, suc}
use Rattle.refusal.specs.Answer.{Answer, good, refused}
use Rattle.refusal.specs.Refusal.{span, given}
use Rattle.text.specs.Scan.{run, skip}
use Rattle.text.specs.Word.{bytes, begins_by}
use Rattle.refusal.specs.declared.place.Span.{Span}
use Rattle.spans.specs.Listing.{list_from, spans_in, outcome, list_in, counted}
use Rattle.version_parts.specs.Joined.{more_len, more}
use Rattle.version_parts.specs.Local.{segment_len, local_len}
use Rattle.version_parts.specs.Release.{epoch_len}
use Rattle.version.specs.Layout.{layout}
use Rattle.version_number.specs.Number.{value_from, number_len}
use Rattle.version_parts.specs.Part.{word_len, part_len, post_len}
use Rattle.version_operator.specs.Operator.{operator_among}
use Rattle.version.specs.Rules.{goes_with, is_specifier}
use Rattle.line_specifiers.specs.Specifier.{text_to, item_at}
use Rattle.line_specifiers.specs.Specifiers.{bare_at, specifiers_at}

-- n specifiers, each with its comma
abbrev pub some : ℕ → List ℕ
some zero = []
some (suc n) = bytes ">1," ++ some n

-- a line, a place, how many specifiers start there and where reading goes on
abbrev pub counts : List (List ℕ × ℕ × Answer (ℕ × ℕ))
counts =
    (bytes "a>=1", 1, good (1, 4))
    ∷ (bytes "a~=1.0;x", 1, good (1, 6))
    ∷ (bytes "a(>=1)<2", 1, good (1, 6))
    ∷ (bytes "a ;x", 2, good (0, 2))
    ∷ (bytes "a x", 2, good (0, 2))
    ∷ (bytes "a", 1, good (0, 1))
    ∷ (bytes "a>", 1, refused 14 1 1)
    ∷ (bytes "a=1", 1, refused 14 1 2)
    ∷ (bytes "a~=1", 1, refused 14 1 3)
    ∷ (bytes "a>=1 x", 1, refused 14 1 5)
    ∷ (bytes "a>=1,", 1, refused 14 5 0)
    ∷ (bytes "a>=1, ;", 1, refused 14 5 1)
    ∷ (bytes "a>=1,,<2", 1, refused 14 5 0)
    ∷ (bytes "a>=1)", 1, refused 14 1 4)
    ∷ (bytes "a(>=1;x)", 1, refused 14 2 5)
    ∷ (bytes "a()", 1, refused 14 2 0)
    ∷ (bytes "a( )", 1, refused 14 3 0)
    ∷ (bytes "a(>=1,)", 1, refused 14 6 0)
    ∷ (bytes "a(x", 1, refused 15 1 1)
    ∷ (bytes "a(x,", 1, refused 14 2 1)
    ∷ (bytes "a(", 1, refused 15 1 1)
    ∷ (bytes "a(>=1,<2;", 1, refused 15 1 1)
    ∷ (some 31 ++ bytes ">1", 0, good (32, 95))
    ∷ (some 32 ++ bytes ">1", 0, refused 16 96 2)
    ∷ (some 32 ++ bytes ">1;x", 0, refused 16 96 2)
    ∷ (some 32 ++ bytes "x", 0, refused 14 96 1)
    ∷ (some 32, 0, refused 14 96 0)
    ∷ (bytes "(" ++ some 31 ++ bytes ">1)", 0, good (32, 97))
    ∷ (bytes "(" ++ some 32 ++ bytes ">1)", 0, refused 16 97 2)
    ∷ (bytes "(" ++ some 32 ++ bytes ">1,", 0, refused 16 97 2)
    ∷ (bytes "(" ++ some 32 ++ bytes ">1", 0, refused 15 0 1)
    ∷ []

-- a line, a place, and the texts
abbrev pub texts : List (List ℕ × ℕ × Answer (List Span))
texts =
    (bytes "a>=1,<2;x", 1, good (span 1 3 ∷ span 5 2 ∷ []))
    ∷ (bytes "a >= 1 , < 2 ; x", 2, good (span 2 5 ∷ span 8 5 ∷ []))
    ∷ (bytes "a( >=1 , <2 ) ;", 1, good (span 3 4 ∷ span 8 4 ∷ []))
    ∷ (bytes "a(==1.*,!=1.5+x.1)", 1, good (span 2 5 ∷ span 8 9 ∷ []))
    ∷ (bytes "a>=1,<x", 1, refused 14 5 2)
    ∷ []

pub holds : (map (λ e. counted (specifiers_at e.0 e.1)) counts ≡ map (λ e. e.2) counts)
    × (map (λ e. list_in (specifiers_at e.0 e.1)) texts ≡ map (λ e. e.2) texts)
unfolding run skip given begins_by more_len more epoch_len segment_len local_len layout value_from number_len word_len part_len post_len operator_among goes_with is_specifier text_to item_at list_from spans_in outcome bare_at specifiers_at
holds = (refl, refl)
