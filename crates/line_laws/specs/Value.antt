-- What a line says under an assignment: what its marker says, with ignored comparisons and emptied groups dropped.
use Rattle.std.specs.Prelude.{ℕ, Bool, true, List, Option, Some, None}
use Rattle.cursor.specs.declared.cursor.Cursor.{Cursor}
use Rattle.line_head.specs.Head.{head}
use Rattle.marker_laws.specs.Value.{Left, none, left, value_of}
use Rattle.marker_steps.specs.Grammar.{Tree, Parsed, got, fault, parse_from}
use Rattle.refusal.specs.Answer.{Answer, good, and_then}
use Rattle.refusal.specs.Refusal.{given}

-- the grammar's tree of a marker
abbrev pub tree_in : Parsed → Answer (Left Tree)
tree_in (got t e) = good (left t)
tree_in (fault why) = given why

-- "then `;` and marker, or the end": none where the line ends
abbrev pub tail_tree : List ℕ → Option Cursor → Answer (Left Tree)
tail_tree s None = good none
tail_tree s (Some from) = tree_in (parse_from s from.at)

abbrev pub line_tree : List ℕ → Answer (Left Tree)
line_tree s = and_then (head s) (λ h. tail_tree s h.marker)

-- what a line says where comparison k is `env k`; "A line without marker has the program 66": yes
abbrev pub line_value : (ℕ → Bool) → Left Tree → Bool
line_value env none = true
line_value env (left t) = value_of env t
