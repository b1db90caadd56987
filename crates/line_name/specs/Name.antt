-- The name at a line's start.
use Rattle.std.specs.Prelude.{ℕ, ◌-◌, cond, List, ltb, length}
use Rattle.refusal.specs.Answer.{Answer, good, refused}
use Rattle.text.specs.Class.{is_space, is_alnum, is_separator, is_name_byte}
use Rattle.refusal.specs.Refusal.{span}
use Rattle.text.specs.Scan.{skip, byte_at}
use Rattle.refusal.specs.declared.place.Span.{Span}

-- "5: name ends in `.` `-` `_`: that byte, 1"; else the name, and the place behind it
abbrev pub name_to : List ℕ → ℕ → ℕ → Answer (Span × ℕ)
name_to s start stop = cond (is_separator (byte_at s (stop - 1))) (refused 5 (stop - 1) 1) (good (span start (stop - start), stop))

-- "A name is a letter or digit, then all following letters, digits, `.`, `-`, `_`."; "4: first name byte not a letter or digit: it, 1"
abbrev pub name_from : List ℕ → ℕ → Answer (Span × ℕ)
name_from s start = cond (is_alnum (byte_at s start)) (name_to s start (skip is_name_byte s start)) (refused 4 start 1)

-- "Whitespace, name, .."; "3: no name before the end: 0, 1"
unfoldable pub name_at : List ℕ → Answer (Span × ℕ)
name_at s = let start = skip is_space s 0 in cond (ltb start (length s)) (name_from s start) (refused 3 0 1)
