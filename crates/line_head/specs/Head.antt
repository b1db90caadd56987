-- The parts of a line before its marker, in their order.
use Rattle.std.specs.Prelude.{ℕ, ◌+◌, cond, List, [], ltb, eqb, length, Option, Some, None}
use Prim.Native.Char.{code}
use Rattle.refusal.specs.Answer.{Answer, good, refused, and_then, on_good}
use Rattle.text.specs.Class.{is_space}
use Rattle.cursor.specs.Cursor.{cursor}
use Rattle.cursor.specs.declared.cursor.Cursor.{Cursor}
use Rattle.text.specs.Scan.{skip, byte_at}
use Rattle.refusal.specs.declared.place.Span.{Span}
use Rattle.spans.specs.Listing.{spans_in, counted}
use Rattle.line_extras.specs.Extras.{extras_at}
use Rattle.line_name.specs.Name.{name_at}
use Rattle.line_specifiers.specs.Specifiers.{specifiers_at}
use Rattle.line_url.specs.Url.{url_at}
use Rattle.line_head.specs.declared.part.Head.{Head}
use Rattle.line_head.specs.declared.part.Wanted.{Wanted}

-- what was read behind a part, nothing where it was refused
abbrev pub behind : {A : Type 0} → Answer A → (A → List Span) → List Span
behind (good a) next = next a
behind (refused number start len) next = []

-- "then `;` and marker, or the end; else 17"; "17: line goes on after its last part: byte, 1"
unfoldable pub tail_at : List ℕ → ℕ → Answer (Option Cursor)
tail_at s at =
    cond (ltb at (length s))
    (cond (eqb (byte_at s at) (code ";")) (good (Some (cursor (at + 1)))) (refused 17 at 1))
    (good None)

-- how many specifiers
abbrev pub text_count : Wanted → ℕ
text_count (Wanted.Specifiers n) = n
text_count (Wanted.Url url) = 0

-- what is wanted and where reading goes on, by a URL or by a list
abbrev pub by_url : Span × ℕ → Wanted × ℕ
by_url u = (Wanted.Url u.0, u.1)

abbrev pub by_list : ℕ × ℕ → Wanted × ℕ
by_list r = (Wanted.Specifiers r.0, r.1)

-- "Then `@` URL, or `(` specifiers `)`, or specifiers if the byte is one of `<=>~!`, or `;`, or the end": where none starts there are no specifiers, and "else 17" is the tail's
unfoldable pub wanted_at : List ℕ → ℕ → Answer (Wanted × ℕ)
wanted_at s at =
    let url = on_good by_url (url_at s (at + 1)) in
    let specifiers = on_good by_list (counted (specifiers_at s at)) in
    cond (eqb (byte_at s at) (code "@")) url specifiers

-- the specifiers that are read there
unfoldable pub texts_at : List ℕ → ℕ → List Span
texts_at s at = let texts = spans_in (specifiers_at s at) in cond (eqb (byte_at s at) (code "@")) [] texts

-- "Whitespace, name, whitespace, extras, whitespace. Then .. Then whitespace, then `;` and marker, or the end": from the end back to the start
abbrev pub head_of : Span → ℕ → Wanted → Option Cursor → Head
head_of name extras wanted tail = record { name = name; extras = extras; wanted = wanted; marker = tail }

unfoldable pub from_tail : List ℕ → Span → ℕ → Wanted → ℕ → Answer Head
from_tail s name extras wanted at = on_good (λ tail. head_of name extras wanted tail) (tail_at s (skip is_space s at))

unfoldable pub from_wanted : List ℕ → Span → ℕ → ℕ → Answer Head
from_wanted s name extras at = and_then (wanted_at s (skip is_space s at)) (λ w. from_tail s name extras w.0 w.1)

unfoldable pub from_extras : List ℕ → Span → ℕ → Answer Head
from_extras s name at = and_then (counted (extras_at s (skip is_space s at))) (λ e. from_wanted s name e.0 e.1)

unfoldable pub head : List ℕ → Answer Head
head s = and_then (name_at s) (λ n. from_extras s n.0 n.1)

-- the extras and the specifiers that were read: behind the name, behind the extras, and both from the line's start
abbrev pub extras_behind : List ℕ → ℕ → List Span
extras_behind s at = spans_in (extras_at s (skip is_space s at))

abbrev pub texts_behind : List ℕ → ℕ → List Span
texts_behind s at = texts_at s (skip is_space s at)

unfoldable pub texts_from : List ℕ → ℕ → List Span
texts_from s at = behind (counted (extras_at s (skip is_space s at))) (λ e. texts_behind s e.1)

unfoldable pub extras_of : List ℕ → List Span
extras_of s = behind (name_at s) (λ n. extras_behind s n.1)

unfoldable pub texts_of : List ℕ → List Span
texts_of s = behind (name_at s) (λ n. texts_from s n.1)
