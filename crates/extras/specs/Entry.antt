-- What the extras entry answers, by its two doors.
use Rattle.std.specs.Prelude.{ℕ, List, length}
use Rattle.refusal.specs.Answer.{Answer, good, refused, on_good}
use Rattle.cursor.specs.Check.{checked}
use Rattle.refusal.specs.declared.place.Span.{Span}
use Rattle.spans.specs.Flat.{spans_onto, padded}
use Rattle.spans.specs.Listing.{list_in}
use Rattle.line_extras.specs.Extras.{extras_at}
use Rattle.extras.specs.declared.entry.Extras.{Extras}

-- "The line, extras and marker entries refuse first 1, then 2, then the first fault met from left to right"; "An extras entry ends after `]` and ignores what follows"
abbrev pub entry : List ℕ → Answer (List Span)
entry s = checked s (list_in (extras_at s 0))

-- the typed door: the list with filler behind it, and the count
abbrev pub filled : List Span → Extras
filled l = record { extras = padded l; count = length l }

-- the quick door: the count; the numbers of the list over the front of the lent array, which a refusal leaves as it was
abbrev pub counts : Answer (List Span) → Answer ℕ
counts a = on_good length a

abbrev pub written : Answer (List Span) → List ℕ → List ℕ
written (good l) out = spans_onto l out
written (refused number start len) out = out
