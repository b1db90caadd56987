-- One requirement line.
use Rattle.std.specs.Prelude.{ℕ, List, [], ◌∷◌, Option, Some, None}
use Rattle.refusal.specs.Answer.{Answer, good, on_good, and_then, good_or}
use Rattle.cursor.specs.Check.{checked}
use Rattle.refusal.specs.Refusal.{span}
use Rattle.cursor.specs.declared.cursor.Cursor.{Cursor}
use Rattle.refusal.specs.declared.place.Span.{Span}
use Rattle.line_head.specs.Head.{head, extras_of, texts_of}
use Rattle.line_head.specs.declared.part.Head.{Head}
use Rattle.line_head.specs.declared.part.Wanted.{Wanted}
use Rattle.marker.specs.Answer.{marker_answer}
use Rattle.marker_steps.specs.Marking.{Marking, nothing}

-- what a line is read as: the spans of its parts, and its marker
pub record Parts : Type 0 where
  pub name : Span
  pub extras : List Span
  pub specifiers : List Span
  pub url : Option Span
  pub marking : Marking

-- "A line without marker has the program 66, count 0."
abbrev pub unmarked : Marking
unmarked = record { comparisons = []; warnings = []; words = 66 ∷ [] }

abbrev pub url_of : Wanted → Option Span
url_of (Wanted.Specifiers n) = None
url_of (Wanted.Url at) = Some at

abbrev pub parts_of : List ℕ → Head → Marking → Parts
parts_of s h m = record { name = h.name; extras = extras_of s; specifiers = texts_of s; url = url_of h.wanted; marking = m }

-- "then `;` and marker, or the end"
abbrev pub marked : List ℕ → Option Cursor → Answer Marking
marked s None = good unmarked
marked s (Some from) = marker_answer s from.at

-- the parts before the marker, then the marker: the first fault from left to right is the answer
unfoldable pub line_parts : List ℕ → Answer Parts
line_parts s = and_then (head s) (λ h. on_good (parts_of s h) (marked s h.marker))

-- "The line, extras and marker entries refuse first 1, then 2, then the first fault met"
abbrev pub line_answer : List ℕ → Answer Parts
line_answer s = checked s (line_parts s)

-- "A refusal carries number, start, length and nothing else; all lists are empty."
abbrev pub empty : Parts
empty = record { name = span 0 0; extras = []; specifiers = []; url = None; marking = nothing }

abbrev pub shown : Answer Parts → Parts
shown a = good_or empty a
