-- "Operator token: if the next byte is a letter, up to whitespace or a quote; else the run of `< = > ~ !`."
use Rattle.std.specs.Prelude.{ℕ, ◌+◌, ◌-◌, cond, List, ltb, eqb, length, Option, Some, None, Result, Ok, Err}
use Prim.Native.Char.{code}
use Rattle.cursor.specs.Cursor.{cursor}
use Rattle.cursor.specs.declared.cursor.Cursor.{Cursor}
use Rattle.marker_kind.specs.declared.kind.Operator.{Operator}
use Rattle.marker_kind.specs.declared.kind.Operator.TheVariants.{Equal, NotEqual, Less, LessEqual, Greater, GreaterEqual, Compatible, In, NotIn}
use Rattle.refusal.specs.Refusal.{span, refusal}
use Rattle.refusal.specs.declared.fault.Fault.TheVariants.{OperatorUnknown, NotUnspaced, ExpectedFoundEnd, ExpectedFoundOther}
use Rattle.refusal.specs.declared.fault.Refusal.{Refusal}
use Rattle.refusal.specs.declared.place.Span.{Span}
use Rattle.text.specs.Class.{is_letter, is_space, is_operator_byte, is_operator_word_byte}
use Rattle.text.specs.Scan.{skip, byte_at}
use Rattle.text.specs.Word.{bytes, spells}

-- "Known: `== != < <= > >= ~= in`.": the last three that are no word, and before them the first four
unfoldable pub later_symbol_in : List ℕ → Span → Option Operator
later_symbol_in s at =
    cond (spells (bytes ">") s at) (Some Greater)
    (cond (spells (bytes ">=") s at) (Some GreaterEqual)
    (cond (spells (bytes "~=") s at) (Some Compatible)
    None))

unfoldable pub symbol_in : List ℕ → Span → Option Operator
symbol_in s at =
    cond (spells (bytes "==") s at) (Some Equal)
    (cond (spells (bytes "!=") s at) (Some NotEqual)
    (cond (spells (bytes "<") s at) (Some Less)
    (cond (spells (bytes "<=") s at) (Some LessEqual)
    (later_symbol_in s at))))

-- "20: operator token unknown: token"
abbrev pub took_symbol : Option Operator → ℕ → ℕ → Result (Operator × Cursor) Refusal
took_symbol (Some operator) at end = Ok (operator, cursor end)
took_symbol None at end = Err (refusal OperatorUnknown at (end - at))

-- "else the run of `< = > ~ !`"
unfoldable pub symbol_at : List ℕ → ℕ → Result (Operator × Cursor) Refusal
symbol_at s at = let end = skip is_operator_byte s at in took_symbol (symbol_in s (span at (end - at))) at end

-- "22: expected byte, found the end: .. or the end for `i`, `n`; 1"; "23: expected byte, found another: it, 1"
abbrev pub expected_at : List ℕ → ℕ → Refusal
expected_at s at = cond (ltb at (length s)) (refusal ExpectedFoundOther at 1) (refusal ExpectedFoundEnd at 1)

abbrev pub expect_at : List ℕ → ℕ → ℕ → Result Cursor Refusal
expect_at s at wanted = cond (eqb (byte_at s at) wanted) (Ok (cursor (at + 1))) (Err (expected_at s at))

-- "then `i`, `n`; nothing need follow `in`"
unfoldable pub in_at : List ℕ → ℕ → Result (Operator × Cursor) Refusal
in_at s at =
    let second = at + 1 in
    cond (eqb (byte_at s at) (code "i")) (cond (eqb (byte_at s second) (code "n")) (Ok (NotIn, cursor (second + 1))) (Err (expected_at s second)))
    (Err (expected_at s at))

-- "`not` needs whitespace after it"; "21: no whitespace after `not`: that byte or end, 1"
unfoldable pub not_at : List ℕ → ℕ → Result (Operator × Cursor) Refusal
not_at s end = cond (is_space (byte_at s end)) (in_at s (skip is_space s end)) (Err (refusal NotUnspaced end 1))

-- "if the next byte is a letter, up to whitespace or a quote"; "20: operator token unknown: token"
unfoldable pub word_at : List ℕ → ℕ → Result (Operator × Cursor) Refusal
word_at s at =
    let end = skip is_operator_word_byte s at in
    cond (spells (bytes "not") s (span at (end - at))) (not_at s end)
    (cond (spells (bytes "in") s (span at (end - at))) (Ok (In, cursor end))
    (Err (refusal OperatorUnknown at (end - at))))

-- the next byte decides which of the two
unfoldable pub operator_at : List ℕ → ℕ → Result (Operator × Cursor) Refusal
operator_at s at = cond (is_letter (byte_at s at)) (word_at s at) (symbol_at s at)
