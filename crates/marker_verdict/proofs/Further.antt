-- A comparison ends behind its start and within the line, and its span is what lies between. Assumes nothing.
use mathlib.Core.Path.{◌≡◌, refl, ap}
use mathlib.Core.List.{List}
use Prim.Native.Nat.{ℕ, ◌-◌, ◌≤◌, ◌<◌}
use native.Mathlib.Omega.{arith}
use lib.ListN.{length}
use Rattle.cursor.specs.declared.cursor.Cursor.{Cursor}
use Rattle.marker_kind.specs.declared.kind.Operator.{Operator}
use Rattle.marker_value.proofs.Operators.{Behind, operator_behind}
use Rattle.marker_value.proofs.Values.{value_placed}
use Rattle.marker_value.specs.Operator.{operator_at}
use Rattle.marker_value.specs.Value.{value_at}
use Rattle.marker_value.specs.declared.value.Value.{Value}
use Rattle.std.specs.Prelude.{Result, Ok, Err}
use Rattle.refusal.specs.Refusal.{span}
use Rattle.refusal.specs.declared.fault.Refusal.{Refusal}
use Rattle.refusal.specs.declared.place.Span.{Span}
use Rattle.text.proofs.Reach.{skip_from}
use Rattle.text.specs.Class.{is_space}
use Rattle.text.specs.Scan.{skip}
use Rattle.marker_verdict.specs.Found.{found, with_right, with_operator, with_left, found_at}
use Rattle.marker_verdict.specs.Verdict.{verdict}
use Rattle.marker_verdict.specs.declared.found.Found.{Found}
use Rattle.marker_verdict.specs.declared.verdict.Verdict.{Verdict}

pub record Further (s : List ℕ) (at : ℕ) (at' : Span) (next : Cursor) : Type 0 where
  pub behind : at < next.at
  pub within : next.at ≤ length s
  pub between : at' ≡ span at (next.at - at)

module _ (s : List ℕ) (at : ℕ) (v : Verdict) (sp : Span) (c : Cursor) where
  right_further : (left : Value) (op : Operator) (from : ℕ) (t : Result (Value × Cursor) Refusal) → value_at s from ≡ t → at < from → with_right s at left op t ≡ Ok (found v sp c) → Further s at sp c
  right_further left op from (Ok (right, next)) e l h =
      let same : ◌≡◌ {A = Found} (found v sp c) (found (verdict s left op right) (span at (next.at - at)) next) = cc in
      let place : c ≡ next = ap (λ (f : Found). f.next) same in
      let lies : sp ≡ span at (next.at - at) = ap (λ (f : Found). f.span) same in
      let here = value_placed s from right next e in
      rw (place, lies) (record { behind = omega (arith, here.behind); within = here.within; between = refl })
  right_further left op from (Err why) e l h = let z : ◌≡◌ {A = ℕ} 0 1 = cc in absurd (omega arith)

  operator_further : (left : Value) (from : ℕ) (b : Result (Operator × Cursor) Refusal) → Behind from b → at < from → with_operator s at left b ≡ Ok (found v sp c) → Further s at sp c
  operator_further left from (Ok (op, next)) behind l h =
      right_further left op (skip is_space s next.at) (value_at s (skip is_space s next.at)) refl (omega (arith, skip_from is_space s next.at)) h
  operator_further left from (Err why) behind l h = let z : ◌≡◌ {A = ℕ} 0 1 = cc in absurd (omega arith)

  left_further : (t : Result (Value × Cursor) Refusal) → value_at s at ≡ t → with_left s at t ≡ Ok (found v sp c) → Further s at sp c
  left_further (Ok (left, next)) e h =
      let here = value_placed s at left next e in
      let from = skip is_space s next.at in
      operator_further left from (operator_at s from) (operator_behind s from) (omega (arith, here.behind, skip_from is_space s next.at)) h
  left_further (Err why) e h = let z : ◌≡◌ {A = ℕ} 0 1 = cc in absurd (omega arith)

  pub found_further : found_at s at ≡ Ok (found v sp c) → Further s at sp c
  unfolding found_at
  found_further e = left_further (value_at s at) refl e
