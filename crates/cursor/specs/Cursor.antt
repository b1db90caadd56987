-- What the moves of a cursor answer.
use Rattle.std.specs.Prelude.{ℕ, ◌+◌, ◌-◌, cond, List, length, ltb, Option, Some, None, Result, Ok, Err}
use Rattle.refusal.specs.Answer.{Answer, good}
use Rattle.refusal.specs.Refusal.{span, given}
use Rattle.text.specs.Scan.{byte_at}
use Rattle.cursor.specs.declared.cursor.Cursor.{Cursor}
use Rattle.refusal.specs.declared.fault.Refusal.{Refusal}
use Rattle.refusal.specs.declared.place.Span.{Span}

abbrev pub cursor : ℕ → Cursor
cursor at = record { at = at }

-- the byte under the cursor, or the end
abbrev pub peek_at : List ℕ → Cursor → Option ℕ
peek_at s c = cond (ltb c.at (length s)) (Some (byte_at s c.at)) None

-- the same, with the cursor behind it
abbrev pub next_at : List ℕ → Cursor → Option (ℕ × Cursor)
next_at s c = cond (ltb c.at (length s)) (Some (byte_at s c.at, cursor (c.at + 1))) None

-- the bytes from one cursor up to another
abbrev pub span_to : Cursor → Cursor → Span
span_to c d = span c.at (d.at - c.at)

-- a result with the cursor behind what was read, as an answer: the same with the place, or the refusal
abbrev pub told_at : {A : Type 0} → Result (A × Cursor) Refusal → Answer (A × ℕ)
told_at (Ok (a, next)) = good (a, next.at)
told_at (Err why) = given why
