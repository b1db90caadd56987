-- Worked examples: PEP 508's and document 01's. A table, and one statement over it. Only here, to compute, are the version rules opened. Assumes nothing.
use mathlib.Core.List.{List, [], ◌∷◌, map}
use mathlib.Core.Path.{◌≡◌, refl}
use Prim.Native.Nat.{ℕ}
use Rattle.std.specs.Prelude.{Some, None}
use Rattle.refusal.specs.Answer.{Answer, good, refused}
use Rattle.cursor.specs.Cursor.{cursor}
use Rattle.refusal.specs.Refusal.{span, given}
use Rattle.text.specs.Scan.{run, skip}
use Rattle.text.specs.Word.{bytes, begins_by}
use Rattle.spans.specs.Listing.{list_from, spans_in, outcome}
use Rattle.line_extras.specs.Extra as Extras
use Rattle.line_extras.specs.Extras.{extras_at}
use Rattle.line_name.specs.Name.{name_at}
use Rattle.line_specifiers.specs.Specifier as Specifiers
use Rattle.line_specifiers.specs.Specifiers.{bare_at, specifiers_at}
use Rattle.line_url.specs.Url.{closes_at, stops_at, first_from, url_end, goes_on, url_at}
use Rattle.version_parts.specs.Joined.{more_len, more}
use Rattle.version_parts.specs.Local.{segment_len, local_len}
use Rattle.version_parts.specs.Release.{epoch_len}
use Rattle.version.specs.Layout.{layout}
use Rattle.version_number.specs.Number.{value_from, number_len}
use Rattle.version_parts.specs.Part.{word_len, part_len, post_len}
use Rattle.version_operator.specs.Operator.{operator_among}
use Rattle.version.specs.Rules.{goes_with, is_specifier}
use Rattle.line_head.specs.Head.{tail_at, wanted_at, texts_at, head_of, from_tail, from_wanted, from_extras, head, texts_from, extras_of, texts_of}
use Rattle.line_head.specs.declared.part.Head.{Head}
use Rattle.line_head.specs.declared.part.Wanted.TheVariants.{Specifiers, Url}

-- a line, and its parts before the marker
abbrev pub table : List (List ℕ × Answer Head)
table =
    (bytes "A", good (head_of (span 0 1) 0 (Specifiers 0) None))
    ∷ (bytes "A.B-C_D", good (head_of (span 0 7) 0 (Specifiers 0) None))
    ∷ (bytes "name<=1", good (head_of (span 0 4) 0 (Specifiers 1) None))
    ∷ (bytes "name>=3,<2", good (head_of (span 0 4) 0 (Specifiers 2) None))
    ∷ (bytes " name ( >=3 , <2 ) ", good (head_of (span 1 4) 0 (Specifiers 2) None))
    ∷ (bytes "name@http://foo.com", good (head_of (span 0 4) 0 (Url (span 5 14)) None))
    ∷ (bytes "name [fred,bar] @ http://foo.com ; python_version=='2.7'", good (head_of (span 0 4) 2 (Url (span 18 14)) (Some (cursor 34))))
    ∷ (bytes "name[quux, strange];python_version<'2.7' and platform_version=='2'", good (head_of (span 0 4) 2 (Specifiers 0) (Some (cursor 20))))
    ∷ (bytes "name; os_name=='a' or os_name=='b'", good (head_of (span 0 4) 0 (Specifiers 0) (Some (cursor 5))))
    ∷ (bytes "a [] >=1 ;", good (head_of (span 0 1) 0 (Specifiers 1) (Some (cursor 10))))
    ∷ (bytes "a @ ;", good (head_of (span 0 1) 0 (Url (span 4 1)) None))
    ∷ (bytes "a @ x;os_name=='a'", good (head_of (span 0 1) 0 (Url (span 4 14)) None))
    ∷ (bytes "a @ http://x; os_name=='a'", refused 17 14 1)
    ∷ (bytes "a @ x #y", refused 17 6 1)
    ∷ (bytes "a b", refused 17 2 1)
    ∷ (bytes "a/b", refused 17 1 1)
    ∷ (bytes "a,", refused 17 1 1)
    ∷ (bytes "a[b] c", refused 17 5 1)
    ∷ (bytes "a[b][c]", refused 17 4 1)
    ∷ (bytes "a(>1)(<2)", refused 17 5 1)
    ∷ (bytes "a (>1) x;", refused 17 7 1)
    ∷ (bytes "", refused 3 0 1)
    ∷ (bytes "./foo", refused 4 0 1)
    ∷ (bytes "foo-;", refused 5 3 1)
    ∷ (bytes "a[", refused 6 1 1)
    ∷ (bytes "a [,", refused 7 3 1)
    ∷ (bytes "a[b,]", refused 8 4 1)
    ∷ (bytes "a[b c]", refused 9 4 1)
    ∷ (bytes "a[b!]>", refused 10 3 1)
    ∷ (bytes "a[b-]@", refused 11 3 1)
    ∷ (bytes "a @", refused 13 3 0)
    ∷ (bytes "a @ ", refused 13 4 0)
    ∷ (bytes "a>=x;", refused 14 1 3)
    ∷ (bytes "a (", refused 15 2 1)
    ∷ []

pub holds : (map (λ e. head e.0) table ≡ map (λ e. e.1) table)
    × (extras_of (bytes "name [fred,bar] >= 3, <2;x") ≡ span 6 4 ∷ span 11 3 ∷ [])
    × (texts_of (bytes "name [fred,bar] >= 3, <2;x") ≡ span 16 4 ∷ span 21 3 ∷ [])
    × (texts_of (bytes "a @ x") ≡ [])
unfolding run skip given begins_by more_len more epoch_len segment_len local_len layout value_from number_len word_len part_len post_len operator_among goes_with is_specifier Specifiers.text_to Specifiers.item_at bare_at specifiers_at Extras.item_at extras_at list_from spans_in outcome name_at closes_at stops_at first_from url_end goes_on url_at tail_at wanted_at texts_at from_tail from_wanted from_extras head texts_from extras_of texts_of
holds = (refl, refl, refl, refl)
