-- An operator ends at its start or behind it. Assumes nothing.
use mathlib.Core.Bool.{Bool, true, false, cond}
use mathlib.Core.List.{List}
use Prim.Native.Nat.{ℕ, ◌+◌, ◌-◌, ◌≤◌}
use native.Mathlib.Omega.{arith}
use lib.Dec.{eqb}
use Rattle.std.specs.Prelude.{Option, Some, None, Result, Ok, Err}
use Rattle.cursor.specs.declared.cursor.Cursor.{Cursor}
use Rattle.marker_kind.specs.declared.kind.Operator.{Operator}
use Rattle.refusal.specs.Refusal.{span}
use Rattle.refusal.specs.declared.fault.Refusal.{Refusal}
use Rattle.text.proofs.Reach.{skip_from}
use Rattle.text.specs.Class.{is_letter, is_space, is_operator_byte, is_operator_word_byte}
use Rattle.text.specs.Scan.{skip, byte_at}
use Rattle.text.specs.Word.{bytes, spells}
use Rattle.marker_value.specs.Operator.{symbol_in, took_symbol, symbol_at, in_at, not_at, word_at, operator_at}

-- an operator, where there is one, ends at a place or behind it
abbrev pub Behind : ℕ → Result (Operator × Cursor) Refusal → Type 0
Behind at (Ok (op, next)) = at ≤ next.at
Behind at (Err why) = Unit {0}

by_test : (at : ℕ) (t : Bool) (x y : Result (Operator × Cursor) Refusal) → Behind at x → Behind at y → Behind at (cond t x y)
by_test at true x y h l = h
by_test at false x y h l = l

symbol_behind : (s : List ℕ) (at : ℕ) → Behind at (symbol_at s at)
unfolding symbol_at
symbol_behind s at = go (symbol_in s (span at (skip is_operator_byte s at - at)))
  where
    go : (found : Option Operator) → Behind at (took_symbol found at (skip is_operator_byte s at))
    go (Some op) = skip_from is_operator_byte s at
    go None = tt

in_behind : (s : List ℕ) (at from : ℕ) → at ≤ from → Behind at (in_at s from)
unfolding in_at
in_behind s at from h =
    by_test at (eqb (byte_at s from) 105) _ _ (by_test at (eqb (byte_at s (from + 1)) 110) _ _ (omega arith) tt) tt

not_behind : (s : List ℕ) (at end : ℕ) → at ≤ end → Behind at (not_at s end)
unfolding not_at
not_behind s at end h = by_test at (is_space (byte_at s end)) _ _ (in_behind s at (skip is_space s end) (omega (arith, skip_from is_space s end))) tt

word_behind : (s : List ℕ) (at : ℕ) → Behind at (word_at s at)
unfolding word_at
word_behind s at =
    let end = skip is_operator_word_byte s at in
    let from = skip_from is_operator_word_byte s at in
    by_test at (spells (bytes "not") s (span at (end - at))) _ _ (not_behind s at end from)
    (by_test at (spells (bytes "in") s (span at (end - at))) _ _ from tt)

pub operator_behind : (s : List ℕ) (at : ℕ) → Behind at (operator_at s at)
unfolding operator_at
operator_behind s at = by_test at (is_letter (byte_at s at)) _ _ (word_behind s at) (symbol_behind s at)
