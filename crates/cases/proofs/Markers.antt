-- Worked examples of whole markers: document 01's cases 1 to 9, the corners of its rules and both sides of each limit. One table, one statement.
-- Assumes nothing.
use mathlib.Core.List.{List, [], ◌∷◌, ◌++◌, map}
use mathlib.Core.Path.{◌≡◌, refl}
use Prim.Native.Nat.{ℕ, zero, suc, ◌+◌}
use Prim.Native.Char.{code}
use lib.ListN.{length, replicate}
use Rattle.marker_verdict.specs.Found.{found_at}
use Rattle.marker_value.specs.Operator.{later_symbol_in, symbol_in, symbol_at, in_at, not_at, word_at, operator_at}
use Rattle.marker_value.specs.Value.{last_name_in, string_name_in, version_name_in, named_at, quoted_at, value_at}
use Rattle.name.specs.Normal.{bad_at}
use Rattle.refusal.specs.Answer.{Answer, good, refused, on_good}
use Rattle.refusal.specs.Refusal.{given}
use Rattle.text.specs.Scan.{run, skip}
use Rattle.text.specs.Word.{bytes, begins_by}
use Rattle.version_parts.specs.Joined.{more_len, more as moreJoined}
use Rattle.version_parts.specs.Local.{segment_len, local_len}
use Rattle.version_parts.specs.Release.{epoch_len}
use Rattle.version.specs.Layout.{layout}
use Rattle.version_number.specs.Number.{value_from, number_len}
use Rattle.version_parts.specs.Part.{word_len, part_len, post_len}
use Rattle.version.specs.Reading.{pieces}
use Rattle.version.specs.Rules.{is_version, goes_with, all_versions, is_version_list}
use Rattle.marker.specs.Answer.{marker_answer}
use Rattle.marker_steps.specs.Grammar.{kept_of, warned_of, settled, settle, word_ahead, more, chain, item_at, item_of, and_of, or_of, closed, group_at, ending, parse_from}
use Rattle.marker_steps.specs.Marking.{Marking, some, words_from, program}

-- a marker's answer in short: how many comparisons are kept, the warnings' kind and span, the program
abbrev pub Row : Type 0
Row = ℕ × List (ℕ × ℕ × ℕ) × List ℕ

abbrev pub row_of : Marking → Row
row_of m = (length m.comparisons, map (λ w. (w.kind, w.span.start.0, w.span.len)) m.warnings, m.words)

abbrev pub short : Answer Marking → Answer Row
short a = on_good row_of a

-- an item n times and once more, joined by a text
abbrev pub joined : ℕ → List ℕ → List ℕ → List ℕ
joined zero joint item = item
joined (suc n) joint item = item ++ joint ++ joined n joint item

-- the words of a chain behind its first comparison: each further one, and its operator
abbrev chained : ℕ → ℕ → ℕ → List ℕ
chained zero from word = []
chained (suc n) from word = from ∷ word ∷ chained n (suc from) word

-- warnings of one kind on spans of one length, so far apart
abbrev warned : ℕ → ℕ → ℕ → ℕ → ℕ → List (ℕ × ℕ × ℕ)
warned zero kind from len apart = []
warned (suc n) kind from len apart = (kind, from, len) ∷ warned n kind (from + apart) len apart

abbrev deep : ℕ → List ℕ
deep n = replicate n (code "(") ++ bytes "os_name=='a'" ++ replicate n (code ")")

-- a line, where its marker starts, and the answer
abbrev pub table : List (List ℕ × ℕ × Answer Row)
table =
    (bytes "os_name=='a'and os_name=='b'", 0, good (2, [], 0 ∷ 1 ∷ 64 ∷ []))  -- case 1
    ∷ (bytes "os_name=='a' and(os_name=='b')", 0, refused 24 13 16)  -- case 2
    ∷ (bytes "os_name=='a' or os_name=='b' and os_name=='c'", 0, good (3, [], 0 ∷ 1 ∷ 2 ∷ 64 ∷ 65 ∷ []))  -- case 3
    ∷ (bytes "'a'=='b' or os_name=='c'", 0, good (1, (5, 0, 8) ∷ [], 0 ∷ []))  -- case 4
    ∷ (bytes "('a'=='b')", 0, good (0, (5, 1, 8) ∷ [], 66 ∷ []))  -- case 5
    ∷ (bytes "python_version in 'abc'", 0, good (0, (1, 0, 23) ∷ (1, 0, 23) ∷ [], 66 ∷ []))  -- case 6
    ∷ (bytes "python_version==os_name", 0, good (0, (1, 0, 23) ∷ [], 66 ∷ []))
    ∷ (bytes "os_name==extra", 0, good (0, (2, 0, 14) ∷ [], 66 ∷ []))
    ∷ (bytes "extra==os_name", 0, good (0, (4, 0, 14) ∷ [], 66 ∷ []))
    ∷ (bytes "python_version in ''", 0, good (1, [], 0 ∷ []))
    ∷ (bytes "'x' in python_version", 0, good (0, (1, 0, 21) ∷ [], 66 ∷ []))
    ∷ (bytes "os_name ~= 'a'", 0, good (0, (3, 0, 14) ∷ [], 66 ∷ []))  -- case 7
    ∷ (bytes "'a' ~= os_name", 0, good (1, [], 0 ∷ []))
    ∷ (bytes "os_name not in'x'", 0, good (1, [], 0 ∷ []))  -- case 8
    ∷ (bytes "os_name not'x'", 0, refused 21 11 1)
    ∷ (bytes "", 0, refused 18 0 1)  -- case 9
    ∷ (bytes "os_name=='a", 0, refused 22 9 1)
    ∷ (bytes "os_name=='a' and os_name=='b' or os_name=='c'", 0, good (3, [], 0 ∷ 1 ∷ 64 ∷ 2 ∷ 65 ∷ []))
    ∷ (bytes "os_name=='a' or os_name=='b' or os_name=='c'", 0, good (3, [], 0 ∷ 1 ∷ 65 ∷ 2 ∷ 65 ∷ []))
    ∷ (bytes "os_name=='a' and (os_name=='b' or os_name=='c')", 0, good (3, [], 0 ∷ 1 ∷ 2 ∷ 65 ∷ 64 ∷ []))
    ∷ (bytes " ( ( os_name == 'a' ) ) ", 0, good (1, [], 0 ∷ []))
    ∷ (bytes "('a'=='b' and 'c'=='d') and os_name=='c'", 0, good (1, (5, 1, 8) ∷ (5, 14, 8) ∷ [], 0 ∷ []))
    ∷ (bytes "os_name=='a' and ('a'=='b') or os_name=='c'", 0, good (2, (5, 18, 8) ∷ [], 0 ∷ 1 ∷ 65 ∷ []))
    ∷ (bytes "extra=='a-' or extra<'b'", 0, good (1, (4, 0, 11) ∷ (4, 15, 9) ∷ [], 0 ∷ []))
    ∷ (bytes "(os_name=='a' and)", 0, refused 23 14 1)
    ∷ (bytes "os_name=='a' and", 0, refused 18 16 1)
    ∷ (bytes "os_name=='a')", 0, refused 24 12 0)
    ∷ (bytes "os_name=='a' x", 0, refused 24 13 0)
    ∷ (bytes "(os_name=='a'", 0, refused 22 0 1)
    ∷ (bytes "(os_name=='a' ]", 0, refused 23 14 1)
    ∷ (bytes "()", 0, refused 19 1 0)
    ∷ (bytes ")", 0, refused 19 0 0)
    ∷ (bytes "os_name", 0, refused 20 7 0)
    ∷ (bytes "foo; os_name=='a'", 4, good (1, [], 0 ∷ []))
    ∷ (bytes "foo; os_name=='a' 1", 4, refused 24 18 0)
    ∷ (bytes "foo;", 4, refused 18 4 1)
    ∷ (deep 16, 0, good (1, [], 0 ∷ []))
    ∷ (deep 17, 0, refused 25 16 1)
    ∷ (joined 63 (bytes " or ") (bytes "os_name<''"), 0, good (64, [], 0 ∷ chained 63 1 65))
    ∷ (joined 64 (bytes " or ") (bytes "os_name<''"), 0, refused 26 896 10)
    ∷ (joined 63 (bytes " or ") (bytes "os_name<''") ++ bytes " or os_name='a'", 0, refused 20 903 1)
    ∷ (joined 63 (bytes " or ") (bytes "os_name<''") ++ bytes " or ''==''", 0, good (64, (5, 896, 6) ∷ [], 0 ∷ chained 63 1 65))
    ∷ (joined 63 (bytes " or ") (bytes "''==''"), 0, good (0, warned 64 5 0 6 10, 66 ∷ []))
    ∷ (joined 64 (bytes " or ") (bytes "''==''"), 0, refused 27 640 6)
    ∷ (joined 62 (bytes " or ") (bytes "''==''") ++ bytes " or python_version in 'a'", 0, refused 27 630 21)
    ∷ (joined 64 (bytes " and ") (bytes "extra=='-'"), 0, refused 27 960 10)
    ∷ []

pub holds : map (λ e. short (marker_answer e.0 e.1)) table ≡ map (λ e. e.2) table
unfolding given run skip begins_by bad_at more_len moreJoined epoch_len segment_len local_len layout value_from number_len word_len part_len post_len pieces is_version goes_with all_versions is_version_list later_symbol_in symbol_in symbol_at in_at not_at word_at operator_at last_name_in string_name_in version_name_in named_at quoted_at value_at found_at kept_of warned_of settled settle word_ahead more chain item_at item_of and_of or_of closed group_at ending parse_from some words_from program
holds = refl
