-- A number's value is what its digits say in base ten, and the digits of a number say that number. Assumes nothing.
use mathlib.Core.Path.{◌≡◌, refl, ◌∙◌}
use mathlib.Core.Bool.{Bool, true, false, cond}
use mathlib.Core.List.{List, [], ◌∷◌, ◌++◌}
use Prim.Native.Nat.{ℕ, zero, suc, ◌+◌, ◌*◌, ◌/◌, ◌%◌, ◌<◌}
use Prim.Native.Char.{code}
use native.Mathlib.Omega.{arith}
use borrow.Author.Tests.{ltb-true, ltb-false, le-leb}
use lib.Dec.{ltb}
use Rattle.std.proofs.lemmas.Bool.{and_parts}
use Rattle.text.specs.Class.{is_digit}
use Rattle.version_language.specs.Appendix.{all}
use Rattle.version_number.specs.Number.{digit_value, value_from, value}

-- one digit more
value_from_snoc : (v : ℕ) (s : List ℕ) (b : ℕ) → all is_digit s ≡ true → is_digit b ≡ true → value_from v (s ++ (b ∷ [])) ≡ 10 * value_from v s + digit_value b
unfolding value_from
value_from_snoc v [] b h d = rw d
value_from_snoc v (c ∷ s) b h d =
    let (first, rest) = and_parts (is_digit c) (all is_digit s) h in
    rw first (value_from_snoc (10 * v + digit_value c) s b rest d)

pub value_snoc : (s : List ℕ) (b : ℕ) → all is_digit s ≡ true → is_digit b ≡ true → value (s ++ (b ∷ [])) ≡ 10 * value s + digit_value b
value_snoc s b h d = value_from_snoc 0 s b h d

pub value_none : value [] ≡ 0
unfolding value_from
value_none = refl

-- the decimal digits of a number: of at most k
unfoldable pub digits_in : ℕ → ℕ → List ℕ
digits_in zero n = []
digits_in (suc k) n = cond (ltb n 10) ((code "0" + n) ∷ []) (digits_in k (n / 10) ++ ((code "0" + n % 10) ∷ []))

abbrev pub digits : ℕ → List ℕ
digits n = digits_in (suc n) n

digit_is : (d : ℕ) → d < 10 → is_digit (code "0" + d) ≡ true
digit_is d h = rw (le-leb 48 (48 + d) (omega arith), le-leb (48 + d) 57 (omega arith))

all_snoc : (s : List ℕ) (b : ℕ) → all is_digit s ≡ true → is_digit b ≡ true → all is_digit (s ++ (b ∷ [])) ≡ true
all_snoc [] b h d = rw d
all_snoc (c ∷ s) b h d =
    let (first, rest) = and_parts (is_digit c) (all is_digit s) h in
    rw first (all_snoc s b rest d)

digits_in_lem : (k n : ℕ) → n < k → (all is_digit (digits_in k n) ≡ true) × (value (digits_in k n) ≡ n)
unfolding digits_in value_from
digits_in_lem zero n h = absurd (omega arith)
digits_in_lem (suc k) n h = go (ltb n 10) refl (digits_in_lem k (n / 10))
  where
    go : (t : Bool) → ltb n 10 ≡ t → (n / 10 < k → (all is_digit (digits_in k (n / 10)) ≡ true) × (value (digits_in k (n / 10)) ≡ n / 10)) → (all is_digit (cond t ((code "0" + n) ∷ []) (digits_in k (n / 10) ++ ((code "0" + n % 10) ∷ []))) ≡ true) × (value (cond t ((code "0" + n) ∷ []) (digits_in k (n / 10) ++ ((code "0" + n % 10) ∷ []))) ≡ n)
    go true e before =
        let few = ltb-true n 10 e in
        (rw (digit_is n few), rw (digit_is n few) (omega arith))
    go false e before =
        let many = ltb-false n 10 e in
        let (each, sum) = before (omega arith) in
        let last = digit_is (n % 10) (omega arith) in
        (all_snoc (digits_in k (n / 10)) (code "0" + n % 10) each last, value_snoc (digits_in k (n / 10)) (code "0" + n % 10) each last ∙ rw sum (omega arith))

pub digits_digits : (n : ℕ) → all is_digit (digits n) ≡ true
digits_digits n = (digits_in_lem (suc n) n (omega arith)).0

-- the digits of a number say it
pub digits_value : (n : ℕ) → value (digits n) ≡ n
digits_value n = (digits_in_lem (suc n) n (omega arith)).1
