-- An accepted line has no marker and the program 66, or a marker that the grammar reads as a tree: what holds of both holds of every accepted line.
-- Assumes nothing.
use mathlib.Core.Bool.{Bool, true, false, cond}
use mathlib.Core.List.{List}
use mathlib.Core.Path.{◌≡◌, refl}
use native.Mathlib.Omega.{arith}
use Prim.Native.Nat.{ℕ}
use lib.Dec.{ltb}
use lib.ListN.{length}
use Rattle.std.specs.Prelude.{Option, Some, None}
use Rattle.cursor.specs.declared.cursor.Cursor.{Cursor}
use Rattle.line.specs.Line.{Parts, unmarked, parts_of, marked, line_parts, line_answer}
use Rattle.line_head.specs.Head.{head}
use Rattle.line_head.specs.declared.part.Head.{Head}
use Rattle.line_laws.specs.Value.{tree_in, tail_tree, line_tree}
use Rattle.marker.specs.Answer.{answered, marker_answer}
use Rattle.marker_laws.specs.Value.{Left, none, left}
use Rattle.marker_steps.specs.Grammar.{Tree, Parsed, got, fault, parse_from}
use Rattle.marker_steps.specs.Marking.{Marking, marking}
use Rattle.refusal.specs.Answer.{Answer, good, refused, on_good, and_then}
use Rattle.refusal.specs.Refusal.{given}
use Rattle.text.specs.Class.{is_ascii}
use Rattle.text.specs.Scan.{run}

module _ (s : List ℕ) (P : Marking → Answer (Left Tree) → Type 0) (alone : P unmarked (good none)) (with' : (from : ℕ) (m : Marking) (t : Tree) (e : ℕ) → marker_answer s from ≡ good m → parse_from s from ≡ got t e → P m (good (left t))) (p : Parts) where
  by_marker : (h : Head) (from : ℕ) (x : Parsed) → parse_from s from ≡ x → on_good (parts_of s h) (answered x) ≡ good p → P p.marking (tree_in x)
  unfolding given
  by_marker h from (got t e) is q = let z : parts_of s h (marking t) ≡ p = cc in rw (← z) (with' from (marking t) t e (rw is) is)
  by_marker h from (fault why) is q = let z : ◌≡◌ {A = ℕ} 0 1 = cc in absurd (omega arith)

  by_tail : (h : Head) (t : Option Cursor) → on_good (parts_of s h) (marked s t) ≡ good p → P p.marking (tail_tree s t)
  by_tail h None q = let z : parts_of s h unmarked ≡ p = cc in rw (← z) alone
  by_tail h (Some from) q = by_marker h from.at (parse_from s from.at) refl q

  by_head : (a : Answer Head) → and_then a (λ h. on_good (parts_of s h) (marked s h.marker)) ≡ good p → P p.marking (and_then a (λ h. tail_tree s h.marker))
  by_head (good h) q = by_tail h h.marker q
  by_head (refused number start len) q = let z : ◌≡◌ {A = ℕ} 0 1 = cc in absurd (omega arith)

  pub accepted : line_answer s ≡ good p → P p.marking (line_tree s)
  unfolding line_parts
  accepted e = go (ltb 4096 (length s)) (ltb (run is_ascii s) (length s)) e
    where
      go : (t u : Bool) → cond t (refused 1 4096 1) (cond u (refused 2 (run is_ascii s) 1) (and_then (head s) (λ h. on_good (parts_of s h) (marked s h.marker)))) ≡ good p → P p.marking (line_tree s)
      go true u q = let z : ◌≡◌ {A = ℕ} 0 1 = cc in absurd (omega arith)
      go false true q = let z : ◌≡◌ {A = ℕ} 0 1 = cc in absurd (omega arith)
      go false false q = by_head (head s) q
