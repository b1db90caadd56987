-- The bits of a conjunction, a disjunction and a complement of assignments, and none past the 64. Assumes nothing.
use mathlib.Core.Path.{◌≡◌, refl}
use mathlib.Core.Bool.{false, not, ◌&&◌, ◌||◌}
use Prim.Native.Nat.{ℕ, zero, suc, ◌+◌, ◌-◌, ◌/◌, ◌%◌, ◌^◌, ◌≤◌, ◌<◌, min, max}
use native.Mathlib.Nat.{pow-suc, mod-lt, div-eq_of_lt, lt_of_lt_of_le}
use native.Mathlib.Omega.{arith}
use lib.Bits.{bit_and, bit_or, and_step, or_step}
use lib.Dec.{eqb}
use lib.Pow.{shr-shr, pow_pos, pow_mono}
use Rattle.program_run.specs.Run.{bit}

pub bit_past : (assignment k : ℕ) → assignment < 2 ^ 64 → 64 ≤ k → false ≡ bit assignment k
unfolding bit
bit_past assignment k h l = rw (div-eq_of_lt (lt_of_lt_of_le h (pow_mono l)))

-- a bit above the lowest is one of the half
pub bit_up : (x k : ℕ) → bit x (suc k) ≡ bit (x / 2) k
unfolding bit
bit_up x k =
    let e : 1 + k ≡ suc k = omega arith in
    rw (shr-shr x 1 k, e)

-- the lowest is the rest by 2
pub bit_low : (x : ℕ) → bit x 0 ≡ eqb (x % 2) 1
unfolding bit
bit_low x = let e : x / 1 ≡ x = omega arith in rw e

-- which is 0 or 1
pub by_two : (P : ℕ → Type 0) (x : ℕ) → P 0 → P 1 → P (x % 2)
by_two P x p q = go (x % 2) (mod-lt x (omega arith))
  where
    go : (r : ℕ) → r < 2 → P r
    go zero l = p
    go (suc zero) l = q
    go (suc (suc r)) l = absurd (omega arith)

rest_two : (x : ℕ) → x % 2 < 2
rest_two x = mod-lt x (omega arith)

min_bits : (x y : ℕ) → eqb (min (x % 2) (y % 2)) 1 ≡ eqb (x % 2) 1 && eqb (y % 2) 1
min_bits x y = by_two (λ r. eqb (min r (y % 2)) 1 ≡ eqb r 1 && eqb (y % 2) 1) x
    (by_two (λ r. eqb (min 0 r) 1 ≡ eqb 0 1 && eqb r 1) y refl refl)
    (by_two (λ r. eqb (min 1 r) 1 ≡ eqb 1 1 && eqb r 1) y refl refl)

max_bits : (x y : ℕ) → eqb (max (x % 2) (y % 2)) 1 ≡ eqb (x % 2) 1 || eqb (y % 2) 1
max_bits x y = by_two (λ r. eqb (max r (y % 2)) 1 ≡ eqb r 1 || eqb (y % 2) 1) x
    (by_two (λ r. eqb (max 0 r) 1 ≡ eqb 0 1 || eqb r 1) y refl refl)
    (by_two (λ r. eqb (max 1 r) 1 ≡ eqb 1 1 || eqb r 1) y refl refl)

-- `a & b`
pub bit_and_lem : (a b k : ℕ) → bit (bit_and a b) k ≡ bit a k && bit b k
bit_and_lem a b zero =
    let e : bit_and a b % 2 ≡ min (a % 2) (b % 2) = omega (arith, and_step a b, rest_two a, rest_two b) in
    rw (bit_low (bit_and a b), bit_low a, bit_low b, e) (min_bits a b)
bit_and_lem a b (suc k) =
    let e : bit_and a b / 2 ≡ bit_and (a / 2) (b / 2) = omega (arith, and_step a b, rest_two a, rest_two b) in
    rw (bit_up (bit_and a b) k, bit_up a k, bit_up b k, e) (bit_and_lem (a / 2) (b / 2) k)

-- `a | b`
pub bit_or_lem : (a b k : ℕ) → bit (bit_or a b) k ≡ bit a k || bit b k
bit_or_lem a b zero =
    let e : bit_or a b % 2 ≡ max (a % 2) (b % 2) = omega (arith, or_step a b, rest_two a, rest_two b) in
    rw (bit_low (bit_or a b), bit_low a, bit_low b, e) (max_bits a b)
bit_or_lem a b (suc k) =
    let e : bit_or a b / 2 ≡ bit_or (a / 2) (b / 2) = omega (arith, or_step a b, rest_two a, rest_two b) in
    rw (bit_up (bit_or a b) k, bit_up a k, bit_up b k, e) (bit_or_lem (a / 2) (b / 2) k)

turned : (x : ℕ) → eqb (1 - x % 2) 1 ≡ not (eqb (x % 2) 1)
turned x = by_two (λ r. eqb (1 - r) 1 ≡ not (eqb r 1)) x refl refl

-- `!a` within n bits: 64 for an assignment
pub bit_not : (n a k : ℕ) → a < 2 ^ n → k < n → bit (2 ^ n - 1 - a) k ≡ not (bit a k)
bit_not zero a k f l = absurd (omega arith)
bit_not (suc n) a zero f l =
    let p = pow-suc 2 n in
    let q = pow_pos n in
    let e : (2 ^ suc n - 1 - a) % 2 ≡ 1 - a % 2 = omega (arith, p, q) in
    rw (bit_low (2 ^ suc n - 1 - a), bit_low a, e) (turned a)
bit_not (suc n) a (suc k) f l =
    let p = pow-suc 2 n in
    let q = pow_pos n in
    let e : (2 ^ suc n - 1 - a) / 2 ≡ 2 ^ n - 1 - a / 2 = omega (arith, p, q) in
    rw (bit_up (2 ^ suc n - 1 - a) k, bit_up a k, e) (bit_not n (a / 2) k (omega (arith, p)) (omega arith))
