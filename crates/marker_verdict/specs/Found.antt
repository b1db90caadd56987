-- One comparison at a place: "Whitespace may stand between all three parts."
use Rattle.std.specs.Prelude.{ℕ, ◌-◌, List, Result, Ok, Err}
use Rattle.cursor.specs.declared.cursor.Cursor.{Cursor}
use Rattle.marker_kind.specs.declared.kind.Operator.{Operator}
use Rattle.marker_value.specs.Operator.{operator_at}
use Rattle.marker_value.specs.Value.{value_at}
use Rattle.marker_value.specs.declared.value.Value.{Value}
use Rattle.refusal.specs.Refusal.{span}
use Rattle.refusal.specs.declared.fault.Refusal.{Refusal}
use Rattle.refusal.specs.declared.place.Span.{Span}
use Rattle.text.specs.Class.{is_space}
use Rattle.text.specs.Scan.{skip}
use Rattle.marker_verdict.specs.Verdict.{verdict}
use Rattle.marker_verdict.specs.declared.found.Found.{Found}
use Rattle.marker_verdict.specs.declared.verdict.Verdict.{Verdict}

abbrev pub found : Verdict → Span → Cursor → Found
found v x next = record { verdict = v; span = x; next = next }

-- a right value, and so a comparison, "on the span from the left value's first byte to the right value's last"
abbrev pub with_right : List ℕ → ℕ → Value → Operator → Result (Value × Cursor) Refusal → Result Found Refusal
with_right s at left op (Ok (right, next)) = Ok (found (verdict s left op right) (span at (next.at - at)) next)
with_right s at left op (Err why) = Err why

-- an operator, and then the right value
abbrev pub with_operator : List ℕ → ℕ → Value → Result (Operator × Cursor) Refusal → Result Found Refusal
with_operator s at left (Ok (op, next)) = with_right s at left op (value_at s (skip is_space s next.at))
with_operator s at left (Err why) = Err why

-- a left value, and then the operator
abbrev pub with_left : List ℕ → ℕ → Result (Value × Cursor) Refusal → Result Found Refusal
with_left s at (Ok (left, next)) = with_operator s at left (operator_at s (skip is_space s next.at))
with_left s at (Err why) = Err why

-- what stands at a place where no white space does
unfoldable pub found_at : List ℕ → ℕ → Result Found Refusal
found_at s at = with_left s at (value_at s at)
