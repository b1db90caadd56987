-- "Cases to prove together: One table, one statement over it", over the line, extras and marker entries and the normaliser; with PEP 508's own lines, every
-- refusal 1 to 17 of the line at least twice, and both sides of 4,096 bytes, 32 extras and 32 specifiers. Assumes nothing.
use mathlib.Core.List.{List, [], ◌∷◌, ◌++◌, map}
use mathlib.Core.Path.{◌≡◌, refl}
use Prim.Native.Nat.{ℕ, zero, suc, ◌+◌}
use Prim.Native.String.{String}
use lib.ListN.{replicate}
use Rattle.std.specs.Prelude.{Option, Some, None}
use Rattle.marker_verdict.specs.Found.{found_at}
use Rattle.marker_value.specs.Operator.{later_symbol_in, symbol_in, symbol_at, in_at, not_at, word_at, operator_at}
use Rattle.marker_value.specs.Value.{last_name_in, string_name_in, version_name_in, named_at, quoted_at, value_at}
use Rattle.arrays.specs.Front.{onto}
use Rattle.name.specs.Normal.{normal, bad_at}
use Rattle.name.specs.Normalise.{normalised, output}
use Rattle.refusal.specs.Answer.{Answer, good, refused, on_good}
use Rattle.refusal.specs.Refusal.{given}
use Rattle.text.specs.Scan.{run, skip}
use Rattle.text.specs.Word.{bytes, begins_by}
use Rattle.refusal.specs.declared.place.Span.{Span}
use Rattle.version_parts.specs.Joined.{more_len, more as moreJoined}
use Rattle.version_parts.specs.Local.{segment_len, local_len}
use Rattle.version_parts.specs.Release.{epoch_len}
use Rattle.version.specs.Layout.{layout}
use Rattle.version_number.specs.Number.{value_from, number_len}
use Rattle.version_parts.specs.Part.{word_len, part_len, post_len}
use Rattle.version.specs.Reading.{pieces}
use Rattle.version_operator.specs.Operator.{operator_among}
use Rattle.version.specs.Rules.{is_version, goes_with, is_specifier, all_versions, is_version_list}
use Rattle.spans.specs.Listing.{list_from, spans_in, outcome}
use Rattle.extras.specs.Entry.{entry}
use Rattle.line_extras.specs.Extra.{item_at as extraItemAt}
use Rattle.line_extras.specs.Extras.{extras_at}
use Rattle.line_url.specs.Url.{closes_at, stops_at, first_from, url_end, goes_on, url_at}
use Rattle.line_specifiers.specs.Specifier.{text_to, item_at as textItemAt}
use Rattle.line_specifiers.specs.Specifiers.{bare_at, specifiers_at}
use Rattle.line_name.specs.Name.{name_at}
use Rattle.line_head.specs.Head.{tail_at, wanted_at, texts_at, from_tail, from_wanted, from_extras, head, texts_from, extras_of, texts_of}
use Rattle.marker.specs.Answer.{entry_answer}
use Rattle.marker_steps.specs.Grammar.{kept_of, warned_of, settled, settle, word_ahead, more, chain, item_at, item_of, and_of, or_of, closed, group_at, ending, parse_from}
use Rattle.marker_steps.specs.Marking.{some, words_from, program}
use Rattle.line.specs.Line.{Parts, line_parts, line_answer}
use Rattle.cases.proofs.Markers.{Row, row_of, short, joined}

-- what is asked: an entry and its text, or a line's or a marker's bytes
pub data Question : Type 0 where
  marker extras name line : String → Question
  line_of marker_of : List ℕ → Question

-- an answer in short: a marker's as in `Markers`; spans as a start and a length; a normal form's length and the output
pub data Reply : Type 0 where
  marked : Row → Reply
  listed : List (ℕ × ℕ) → Reply
  written : ℕ → List ℕ → Reply
  required : ℕ × ℕ → List (ℕ × ℕ) → List (ℕ × ℕ) → List (ℕ × ℕ) → Row → Reply

abbrev placed : Span → ℕ × ℕ
placed x = (x.start.0, x.len)

abbrev urls : Option Span → List (ℕ × ℕ)
urls None = []
urls (Some x) = placed x ∷ []

abbrev parts : Parts → Reply
parts p = required (placed p.name) (map placed p.extras) (map placed p.specifiers) (urls p.url) (row_of p.marking)

abbrev replied : Question → Answer Reply
replied (marker t) = on_good marked (short (entry_answer (bytes t)))
replied (extras t) = on_good (λ l. listed (map placed l)) (entry (bytes t))
replied (name t) = on_good (λ n. written n (output (bytes t) (bytes "#########"))) (normalised (bytes t) 9)
replied (line t) = on_good parts (line_answer (bytes t))
replied (line_of s) = on_good parts (line_answer s)
replied (marker_of s) = on_good marked (short (entry_answer s))

abbrev nothing : Row
nothing = (0, [], 66 ∷ [])

-- spans of one length, so far apart
abbrev apart : ℕ → ℕ → ℕ → ℕ → List (ℕ × ℕ)
apart zero from len step = []
apart (suc n) from len step = (from, len) ∷ apart n (from + step) len step

-- an extra or a specifier n times and once more
abbrev extras_once : ℕ → List ℕ
extras_once n = joined n (bytes ",") (bytes "b")

abbrev texts_once : ℕ → List ℕ
texts_once n = joined n (bytes ",") (bytes ">1")

abbrev pub table : List (Question × Answer Reply)
table =
    (marker "os_name=='a'and os_name=='b'", good (marked (2, [], 0 ∷ 1 ∷ 64 ∷ [])))  -- 1
    ∷ (marker "os_name=='a' and(os_name=='b')", refused 24 13 16)  -- 2
    ∷ (marker "os_name=='a' or os_name=='b' and os_name=='c'", good (marked (3, [], 0 ∷ 1 ∷ 2 ∷ 64 ∷ 65 ∷ [])))  -- 3
    ∷ (marker "'a'=='b' or os_name=='c'", good (marked (1, (5, 0, 8) ∷ [], 0 ∷ [])))  -- 4
    ∷ (marker "('a'=='b')", good (marked (0, (5, 1, 8) ∷ [], 66 ∷ [])))  -- 5
    ∷ (marker "python_version in 'abc'", good (marked (0, (1, 0, 23) ∷ (1, 0, 23) ∷ [], 66 ∷ [])))  -- 6
    ∷ (marker "os_name ~= 'a'", good (marked (0, (3, 0, 14) ∷ [], 66 ∷ [])))  -- 7
    ∷ (marker "'a' ~= os_name", good (marked (1, [], 0 ∷ [])))
    ∷ (marker "os_name not in'x'", good (marked (1, [], 0 ∷ [])))  -- 8
    ∷ (marker "os_name not'x'", refused 21 11 1)
    ∷ (marker "", refused 18 0 1)  -- 9
    ∷ (marker "os_name=='a", refused 22 9 1)
    ∷ (extras "[,", refused 7 1 1)  -- 10
    ∷ (extras "[a,]", refused 8 3 1)
    ∷ (name "Foo._-Bar", good (written 7 (bytes "foo-bar##")))  -- 11
    ∷ (line "foo-;", refused 5 3 1)  -- 12
    ∷ (line "A", good (required (0, 1) [] [] [] nothing))
    ∷ (line "A.B-C_D", good (required (0, 7) [] [] [] nothing))
    ∷ (line "aa", good (required (0, 2) [] [] [] nothing))
    ∷ (line "name", good (required (0, 4) [] [] [] nothing))
    ∷ (line "name<=1", good (required (0, 4) [] ((4, 3) ∷ []) [] nothing))
    ∷ (line "name>=3", good (required (0, 4) [] ((4, 3) ∷ []) [] nothing))
    ∷ (line "name>=3,<2", good (required (0, 4) [] ((4, 3) ∷ (8, 2) ∷ []) [] nothing))
    ∷ (line "name@http://foo.com", good (required (0, 4) [] [] ((5, 14) ∷ []) nothing))
    ∷ (line "name [fred,bar] @ http://foo.com ; python_version=='2.7'", good (required (0, 4) ((6, 4) ∷ (11, 3) ∷ []) [] ((18, 14) ∷ []) (1, [], 0 ∷ [])))
    ∷ (line "name[quux, strange];python_version<'2.7' and platform_version=='2'", good (required (0, 4) ((5, 4) ∷ (11, 7) ∷ []) [] [] (2, [], 0 ∷ 1 ∷ 64 ∷ [])))
    ∷ (line "name; os_name=='a' or os_name=='b'", good (required (0, 4) [] [] [] (2, [], 0 ∷ 1 ∷ 65 ∷ [])))
    ∷ (line "name; os_name=='a' and os_name=='b' or os_name=='c'", good (required (0, 4) [] [] [] (3, [], 0 ∷ 1 ∷ 64 ∷ 2 ∷ 65 ∷ [])))
    ∷ (line "name; os_name=='a' and (os_name=='b' or os_name=='c')", good (required (0, 4) [] [] [] (3, [], 0 ∷ 1 ∷ 2 ∷ 65 ∷ 64 ∷ [])))
    ∷ (line "name; os_name=='a' or os_name=='b' and os_name=='c'", good (required (0, 4) [] [] [] (3, [], 0 ∷ 1 ∷ 2 ∷ 64 ∷ 65 ∷ [])))
    ∷ (line "name; (os_name=='a' or os_name=='b') and os_name=='c'", good (required (0, 4) [] [] [] (3, [], 0 ∷ 1 ∷ 65 ∷ 2 ∷ 64 ∷ [])))
    ∷ (line "requests [security,tests] >= 2.8.1, == 2.8.* ; python_version < \"2.7\"", good (required (0, 8) ((10, 8) ∷ (19, 5) ∷ []) ((26, 8) ∷ (35, 10) ∷ []) [] (1, [], 0 ∷ [])))
    ∷ (line "pip @ https://github.com/pypa/pip/archive/1.3.1.zip#sha1=da9234ee9982d4bbb3c72346a6de940a148ea686", good (required (0, 3) [] [] ((6, 91) ∷ []) nothing))
    ∷ (line " requests [security] (>= 2.8.1, == 2.8.*) ; extra=='a-'", good (required (1, 8) ((11, 8) ∷ []) ((22, 8) ∷ (31, 9) ∷ []) [] (1, (4, 44, 11) ∷ [], 0 ∷ [])))
    ∷ (line "a @ http://x; os_name=='a'", refused 17 14 1)
    ∷ (line "a @ ;", good (required (0, 1) [] [] ((4, 1) ∷ []) nothing))
    ∷ (line_of (replicate 4095 32 ++ bytes "a"), good (required (4095, 1) [] [] [] nothing))
    ∷ (marker_of (replicate 4096 32), refused 18 4096 1)
    ∷ (marker_of (replicate 4097 32), refused 1 4096 1)
    ∷ (line_of (replicate 4097 97), refused 1 4096 1)
    ∷ (line_of (replicate 4097 128), refused 1 4096 1)
    ∷ (line_of (bytes "a;" ++ (128 ∷ [])), refused 2 2 1)
    ∷ (line_of (bytes "-" ++ (97 ∷ 255 ∷ 128 ∷ [])), refused 2 2 1)
    ∷ (line "", refused 3 0 1)
    ∷ (line "  ", refused 3 0 1)
    ∷ (line " .a", refused 4 1 1)
    ∷ (line "[a]", refused 4 0 1)
    ∷ (line "a._ >1", refused 5 2 1)
    ∷ (line "a[b", refused 6 1 1)
    ∷ (line "a [", refused 6 2 1)
    ∷ (line "a[,b]", refused 7 2 1)
    ∷ (line "a [ ,", refused 7 4 1)
    ∷ (line "a[b,]", refused 8 4 1)
    ∷ (line "a[-b]", refused 8 2 1)
    ∷ (line "a[b c]", refused 9 4 1)
    ∷ (line "a[b [c]", refused 9 4 1)
    ∷ (line "a[b!]", refused 10 3 1)
    ∷ (line "a[b-!", refused 10 4 1)
    ∷ (line "a[b-]", refused 11 3 1)
    ∷ (line "a[b,c_", refused 11 5 1)
    ∷ (line_of (bytes "a[" ++ extras_once 31 ++ bytes "]"), good (required (0, 1) (apart 32 2 1 2) [] [] nothing))
    ∷ (line_of (bytes "a[" ++ extras_once 32 ++ bytes "]"), refused 12 66 1)
    ∷ (line_of (bytes "a[" ++ extras_once 32 ++ bytes "c"), refused 12 66 2)
    ∷ (line "a @ ", refused 13 4 0)
    ∷ (line "a@", refused 13 2 0)
    ∷ (line "a>=x", refused 14 1 3)
    ∷ (line "a==1,;", refused 14 5 0)
    ∷ (line "a(>=1", refused 15 1 1)
    ∷ (line "a (x", refused 15 2 1)
    ∷ (line_of (bytes "a" ++ texts_once 31), good (required (0, 1) [] (apart 32 1 2 3) [] nothing))
    ∷ (line_of (bytes "a" ++ texts_once 32), refused 16 97 2)
    ∷ (line_of (bytes "a(" ++ texts_once 32 ++ bytes ")"), refused 16 98 2)
    ∷ (line "a b", refused 17 2 1)
    ∷ (line "a (>1) x;", refused 17 7 1)
    ∷ (line "a;", refused 18 2 1)
    ∷ (line "a; os_name=='b' c", refused 24 16 0)
    ∷ []

pub holds : map (λ e. replied e.0) table ≡ map (λ e. e.1) table
unfolding given run skip begins_by onto normal bad_at more_len moreJoined epoch_len segment_len local_len layout value_from number_len word_len part_len post_len pieces is_version operator_among goes_with is_specifier all_versions is_version_list list_from spans_in outcome extraItemAt extras_at closes_at stops_at first_from url_end goes_on url_at text_to textItemAt bare_at specifiers_at name_at tail_at wanted_at texts_at from_tail from_wanted from_extras head texts_from extras_of texts_of later_symbol_in symbol_in symbol_at in_at not_at word_at operator_at last_name_in string_name_in version_name_in named_at quoted_at value_at found_at kept_of warned_of settled settle word_ahead more chain item_at item_of and_of or_of closed group_at ending parse_from some words_from program line_parts
holds = refl
