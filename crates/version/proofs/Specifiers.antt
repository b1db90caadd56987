-- The laws of specifiers. Assumes nothing.
use mathlib.Core.Path.{◌≡◌}
use mathlib.Core.Bool.{Bool}
use mathlib.Core.List.{List}
use Prim.Native.Nat.{ℕ, ◌-◌, ◌≤◌}
use native.Mathlib.Omega.{arith}
use lib.ListN.{length, take, drop, length-drop}
use lib.Seq.{take_all}
use Rattle.std.specs.Prelude.{Option}
use Rattle.text.proofs.Reach.{skip_within}
use Rattle.text.specs.Class.{is_space, is_operator_byte}
use Rattle.refusal.specs.Refusal.{span, told}
use Rattle.text.specs.Scan.{skip}
use Rattle.refusal.specs.declared.place.Span.{Span}
use Rattle.version_operator.specs.Operator.{operator_in}
use Rattle.version.proofs.Layouts.{laid}
use Rattle.version.specs.Rules.{suits_token, is_specifier}
use Rattle.version_operator.specs.declared.operator.Operator.{Operator}

-- a specifier, from where the code found its operator
module _ (s : List ℕ) (start from to : ℕ) (first : start ≡ 0) (spaces : from ≡ skip is_space s start) (operator : to ≡ skip is_operator_byte s from) where
  pub specifier_is : (at : Span) (token : Option Operator) (r : Bool) → at ≡ span from (to - from) → token ≡ operator_in s at → r ≡ suits_token token (take (length s - to) (drop to s)) → r ≡ is_specifier s
  unfolding is_specifier
  specifier_is at token r place told suited =
      let rest : take (length s - to) (drop to s) ≡ drop to s = take_all (length s - to) (drop to s) (omega (arith, length-drop to s)) in
      rw (suited, rest, told, place, operator, spaces, first)

  -- the operator ends within the text
  pub operator_within : to ≤ length s
  operator_within =
      let l : from ≤ length s = rw spaces (skip_within is_space s start (omega arith)) in
      rw operator (skip_within is_operator_byte s from l)

pub ruleset asked = (specifier_is, operator_within, laid)
