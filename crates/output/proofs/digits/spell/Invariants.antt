use Rattle.std.proofs.Common.{◌≡◌, ℕ, ◌<◌, ◌≤◌, ◌^◌, drop, get_or}
use Rattle.output.specs.Digits.{continued}
use Rattle.output.proofs.digits.spell.Given as goal

abbrev pub invariant-loop-rest : goal.invariant-loop-rest
invariant-loop-rest l = record {
  in_range : l.at < 20;
  fits : l.rest < 10 ^ l.at;
  digits : (k : ℕ) → l.at ≤ k → k < 20 → (48 ≤ get_or l.digits k 0) × (get_or l.digits k 0 ≤ 57);
  value : continued l.rest (drop l.at l.digits) ≡ l.number;
  shortest : l.rest ≡ 0 → l.at < 19 → get_or l.digits l.at 0 ≡ 48 → ⊥;
}

abbrev pub decreases-loop-rest : goal.decreases-loop-rest
decreases-loop-rest l = l.at
