-- Worked examples of what the quick door answers and writes: with extras and specifiers, with a URL, with a marker, and a refusal, which leaves the arrays. A
-- table, and one statement over it. Only here, to compute, are the rules below the line opened. Assumes nothing.
use mathlib.Core.List.{List, [], ◌∷◌, map}
use mathlib.Core.Path.{◌≡◌, refl}
use Prim.Native.Nat.{ℕ}
use Prim.Native.String.{String}
use lib.ListN.{replicate}
use Rattle.std.specs.Prelude.{Option, Some, None}
use Rattle.marker_verdict.specs.Found.{found_at}
use Rattle.marker_value.specs.Operator.{later_symbol_in, symbol_in, symbol_at, in_at, not_at, word_at, operator_at}
use Rattle.marker_value.specs.Value.{last_name_in, string_name_in, version_name_in, named_at, quoted_at, value_at}
use Rattle.refusal.specs.Answer.{Answer, refused, passes, outcome_of}
use Rattle.refusal.specs.Refusal.{span, given}
use Rattle.text.specs.Scan.{run, skip}
use Rattle.text.specs.Word.{bytes, begins_by}
use Rattle.refusal.specs.declared.place.Span.{Span}
use Rattle.version_parts.specs.Joined.{more_len, more as moreJoined}
use Rattle.version_parts.specs.Local.{segment_len, local_len}
use Rattle.version_parts.specs.Release.{epoch_len}
use Rattle.version.specs.Layout.{layout}
use Rattle.version_number.specs.Number.{value_from, number_len}
use Rattle.version_parts.specs.Part.{word_len, part_len, post_len}
use Rattle.version_operator.specs.Operator.{operator_among}
use Rattle.version.specs.Rules.{is_version, goes_with, is_specifier}
use Rattle.spans.specs.Flat.{flat}
use Rattle.arrays.specs.Front.{onto}
use Rattle.spans.specs.Listing.{list_from, spans_in, outcome}
use Rattle.line_extras.specs.Extra.{item_at as extraItemAt}
use Rattle.line_extras.specs.Extras.{extras_at}
use Rattle.line_url.specs.Url.{closes_at, stops_at, first_from, url_end, goes_on, url_at}
use Rattle.line_specifiers.specs.Specifier.{text_to, item_at as textItemAt}
use Rattle.line_specifiers.specs.Specifiers.{bare_at, specifiers_at}
use Rattle.line_name.specs.Name.{name_at}
use Rattle.line_head.specs.Head.{tail_at, wanted_at, texts_at, from_tail, from_wanted, from_extras, head, texts_from, extras_of, texts_of}
use Rattle.marker_store.specs.Numbers.{all_numbers}
use Rattle.marker_steps.specs.Grammar.{kept_of, warned_of, settled, settle, word_ahead, more, chain, item_at, item_of, and_of, or_of, closed, group_at, ending, parse_from}
use Rattle.marker_steps.specs.Marking.{some, words_from, program}
use Rattle.marker_kind.specs.Code.{sort_code, key_code}
use Rattle.line.specs.Figures.{figures_of, Buffers, buffers, written}
use Rattle.line.specs.Line.{line_parts, line_answer, shown}
use Rattle.line.specs.declared.figures.Figures.{Figures}

-- whether the line was read; the single spans and the counts, which are 0 where it was not; and the arrays
abbrev pub Reply : Type 0
Reply = Answer (Unit {0}) × Figures × Buffers

-- what each array holds before
abbrev pub nines : List ℕ
nines = replicate 6 9

abbrev pub replied : String → Reply
replied t = (outcome_of (line_answer (bytes t)), figures_of (shown (line_answer (bytes t))), written (shown (line_answer (bytes t))) nines nines nines nines nines)

-- the name's span, the counts of extras and specifiers, the URL, the counts of comparisons, warnings and words
abbrev figures : Span → ℕ → ℕ → Option Span → ℕ → ℕ → ℕ → Figures
figures name extras specifiers url kept warned words =
    record { name = name; extras = extras; specifiers = specifiers; url = url; marker = record { kept = kept; warned = warned; words = words } }

abbrev pub table : List (String × Reply)
table =
    ("a[b,c]>=1", (passes, figures (span 0 1) 2 1 None 0 0 1, buffers (2 ∷ 1 ∷ 4 ∷ 1 ∷ 9 ∷ 9 ∷ []) (6 ∷ 3 ∷ 9 ∷ 9 ∷ 9 ∷ 9 ∷ []) nines nines (66 ∷ 9 ∷ 9 ∷ 9 ∷ 9 ∷ 9 ∷ [])))
    ∷ ("a @ http://x", (passes, figures (span 0 1) 0 0 (Some (span 4 8)) 0 0 1, buffers nines nines nines nines (66 ∷ 9 ∷ 9 ∷ 9 ∷ 9 ∷ 9 ∷ [])))
    ∷ ("a;os_name=='b' or 'c'=='d'", (passes, figures (span 0 1) 0 0 None 1 1 1, buffers nines nines (2 ∷ 3 ∷ 0 ∷ 12 ∷ 1 ∷ 9 ∷ []) (5 ∷ 18 ∷ 8 ∷ 9 ∷ 9 ∷ 9 ∷ []) (0 ∷ 9 ∷ 9 ∷ 9 ∷ 9 ∷ 9 ∷ [])))
    ∷ ("a[b]>=1;os_name", (refused 20 15 0, figures (span 0 0) 0 0 None 0 0 0, buffers nines nines nines nines nines))
    ∷ []

pub holds : map (λ e. replied e.0) table ≡ map (λ e. e.1) table
unfolding given run skip begins_by more_len moreJoined epoch_len segment_len local_len layout value_from number_len word_len part_len post_len is_version operator_among goes_with is_specifier flat onto list_from spans_in outcome extraItemAt extras_at closes_at stops_at first_from url_end goes_on url_at text_to textItemAt bare_at specifiers_at name_at tail_at wanted_at texts_at from_tail from_wanted from_extras head texts_from extras_of texts_of later_symbol_in symbol_in symbol_at in_at not_at word_at operator_at last_name_in string_name_in version_name_in named_at quoted_at value_at found_at sort_code key_code all_numbers kept_of warned_of settled settle word_ahead more chain item_at item_of and_of or_of closed group_at ending parse_from some words_from program line_parts
holds = refl
