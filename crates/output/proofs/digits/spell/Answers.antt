use Rattle.std.proofs.Common.{ℕ, ◌≡◌, ◌≢◌, ◌+◌, ◌-◌, ◌*◌, ◌/◌, ◌%◌, ◌<◌, ◌≤◌, ◌^◌, List, length, drop, set, get_or, add-one, arith, ap, ◌∙◌, get_or-set_same}
use Rattle.std.proofs.Math.Nat.{pow-suc}
use Rattle.std.proofs.lemmas.List.{drop-set, drop_all}
use Rattle.std.proofs.lemmas.Grind.{common_steps}
use Rattle.output.specs.Digits.{continued}
use Rattle.output.proofs.digits.spell.Goals as goal

-- the last digit of n goes in front of what stands behind n
placed : (xs : List ℕ) (at before n b : ℕ) → at ≡ before + 1 → before < length xs → b ≡ 48 + n % 10 → continued (n / 10) (drop before (set xs before b)) ≡ continued n (drop at xs)
placed xs at before n b e h d =
    rw (e, d)
    (ap (continued (n / 10)) (drop-set xs before (48 + n % 10) h)
    ∙ ap (λ m. continued m (drop (before + 1) xs)) (omega arith))

smaller : (n at before : ℕ) → at ≡ before + 1 → n < 10 ^ at → n / 10 < 10 ^ before
smaller n at before e h =
    let h' : n < 10 ^ before * 10 = rw (e, add-one, pow-suc) at h in
    omega arith

-- the first digit of a number is none of its zeros
not_zero : (xs : List ℕ) (before n b : ℕ) → before < length xs → 0 < n → n / 10 ≡ 0 → b ≡ 48 + n % 10 → get_or (set xs before b) before 0 ≢ 48
not_zero xs before n b h some less d e =
    let same : get_or (set xs before b) before 0 ≡ b = rw get_or-set_same in
    omega arith

-- one more digit, in front of digits
digits : (xs : List ℕ) (at before n b : ℕ) → at ≡ before + 1 → before < length xs → b ≡ 48 + n % 10 → ((k : ℕ) → at ≤ k → k < 20 → (48 ≤ get_or xs k 0) × (get_or xs k 0 ≤ 57)) → (k : ℕ) → before ≤ k → k < 20 → (48 ≤ get_or (set xs before b) k 0) × (get_or (set xs before b) k 0 ≤ 57)
digits xs at before n b e h d inv k l u = (grind (arith, common_steps, inv k), grind (arith, common_steps, inv k))

pub loop-rest-init : goal.loop-rest-init
loop-rest-init c =
    record {
      in_range = omega arith;
      fits = omega arith;
      digits = digits c.args.digits.now 20 19 c.args.number c.digit.result (omega arith) (omega arith) c.digit.ensures (λ k l u. absurd (omega arith));
      value =
          placed c.args.digits.now 20 19 c.args.number c.digit.result (omega arith) (omega arith) c.digit.ensures
          ∙ ap (continued c.args.number) (drop_all 20 c.args.digits.now (omega arith));
      shortest = λ e h. omega arith;
    }

pub loop-rest-preserved : goal.loop-rest-preserved
loop-rest-preserved c =
    record {
      in_range = omega arith;
      fits = smaller c.loop-rest.rest c.loop-rest.at (c.loop-rest.at - 1) (omega arith) c.loop-rest.invariant.fits;
      digits = digits c.loop-rest.digits c.loop-rest.at (c.loop-rest.at - 1) c.loop-rest.rest c.digit-in-loop-rest.result (omega arith) (omega arith) c.digit-in-loop-rest.ensures c.loop-rest.invariant.digits;
      value =
          placed c.loop-rest.digits c.loop-rest.at (c.loop-rest.at - 1) c.loop-rest.rest c.digit-in-loop-rest.result (omega arith) (omega arith) c.digit-in-loop-rest.ensures
          ∙ c.loop-rest.invariant.value;
      shortest = λ e h. not_zero c.loop-rest.digits (c.loop-rest.at - 1) c.loop-rest.rest c.digit-in-loop-rest.result (omega arith) c.loop-rest-test.true e c.digit-in-loop-rest.ensures;
    }
