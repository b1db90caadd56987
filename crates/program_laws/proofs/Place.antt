-- The place of 30: the word there breaks a stack rule by the words before it, and no earlier word does. Assumes nothing.
use mathlib.Core.Path.{◌≡◌, refl, ap}
use mathlib.Core.Bool.{Bool, true, false, cond, ◌&&◌}
use mathlib.Core.List.{List}
use Prim.Native.Nat.{ℕ, ◌≤◌, ◌<◌}
use native.Mathlib.Omega.{arith}
use borrow.Author.Tests.{ltb-true, ltb-false, leb-false, eqb-true, eqb-false}
use lib.Dec.{ltb, leb, eqb}
use lib.ListN.{length, take}
use Rattle.std.proofs.lemmas.Bool.{and_parts}
use Rattle.refusal.specs.Answer.{Answer, refused, passes}
use Rattle.text.specs.Scan.{byte_at}
use Rattle.program_check.specs.Check.{keeps, fault_at, checked_program}
use Rattle.program_check.specs.Rules.{max_words, max_slots, is_operator, height, allowed}
use Rattle.cursor.specs.Limits.{max_comparisons}
use Rattle.program_check.specs.Word.{word}
use Rattle.program_check.specs.declared.word.Word.{Word}
use Rattle.program_check.specs.declared.word.Word.TheVariants.{Push, And, Or, Yes, Unknown}
use Rattle.program_laws.proofs.Steady.{before_fault, at_fault, allowed_known, allowed_below, allowed_finds, allowed_room}
use Rattle.program_laws.specs.Place.{Breaks, late, strange, above, lacking, crowding, KeptTo, Says, too_many, at_word, at_end, passing}

module _ (s : List ℕ) (count i : ℕ) where
  -- a word that is not at fault breaks no rule
  keeps_none : keeps s count i ≡ true → Breaks s count i → ⊥
  keeps_none k = go (and_parts (ltb i max_words) (allowed count (height 0 (take i s)) (word (byte_at s i))) k)
    where
      go : (ltb i max_words ≡ true) × (allowed count (height 0 (take i s)) (word (byte_at s i)) ≡ true) → Breaks s count i → ⊥
      go p (late l) = omega (arith, ltb-true i max_words p.0)
      go p (strange e) = allowed_known count (height 0 (take i s)) (word (byte_at s i)) p.1 e
      go p (above n e l) = omega (arith, allowed_below count (height 0 (take i s)) (word (byte_at s i)) n p.1 e)
      go p (lacking o l) = omega (arith, allowed_finds count (height 0 (take i s)) (word (byte_at s i)) p.1 o)
      go p (crowding o l) = omega (arith, allowed_room count (height 0 (take i s)) (word (byte_at s i)) p.1 o)

  -- and one that is at fault breaks one
  fault_breaks : keeps s count i ≡ false → Breaks s count i
  fault_breaks k = first (ltb i max_words) refl k
    where
      high : (o : is_operator (word (byte_at s i)) ≡ false) → ltb (height 0 (take i s)) max_slots ≡ false → Breaks s count i
      high o f = crowding o (ltb-false (height 0 (take i s)) max_slots f)

      few : (o : is_operator (word (byte_at s i)) ≡ true) → leb 2 (height 0 (take i s)) ≡ false → Breaks s count i
      few o f = lacking o (leb-false 2 (height 0 (take i s)) f)

      number : (n : ℕ) (t : Bool) → ltb n count ≡ t → (count ≤ n → Breaks s count i) → is_operator (word (byte_at s i)) ≡ false → t && ltb (height 0 (take i s)) max_slots ≡ false → Breaks s count i
      number n true e bad o f = high o f
      number n false e bad o f = bad (ltb-false n count e)

      second : (w : Word) → word (byte_at s i) ≡ w → allowed count (height 0 (take i s)) w ≡ false → Breaks s count i
      second (Push n) e f = number n.0 (ltb n.0 count) refl (above n e) (ap is_operator e) f
      second And e f = few (ap is_operator e) f
      second Or e f = few (ap is_operator e) f
      second Yes e f = high (ap is_operator e) f
      second Unknown e f = strange e

      first : (t : Bool) → ltb i max_words ≡ t → t && allowed count (height 0 (take i s)) (word (byte_at s i)) ≡ false → Breaks s count i
      first true e f = second (word (byte_at s i)) refl f
      first false e f = late (ltb-false i max_words e)

module _ (s : List ℕ) (count : ℕ) where
  kept_to : (i : ℕ) → i ≤ fault_at s count → KeptTo s count i
  kept_to i h j l = keeps_none s count j (before_fault s count j (omega arith))

  -- the check's answer is one of the four, and says what it is to say
  pub check_says : Says s count (checked_program s count)
  check_says = go (ltb max_comparisons count) (ltb (fault_at s count) (length s)) (eqb (height 0 s) 1) refl refl refl
    where
      go : (t u v : Bool) → ltb max_comparisons count ≡ t → ltb (fault_at s count) (length s) ≡ u → eqb (height 0 s) 1 ≡ v →
          Says s count (cond t (refused 31 0 1) (cond u (refused 30 (fault_at s count) 1) (cond v passes (refused 30 (length s) 1))))
      go true u v p q r = too_many (ltb-true max_comparisons count p)
      go false true v p q r =
          let l = ltb-true (fault_at s count) (length s) q in
          at_word (fault_at s count) (ltb-false max_comparisons count p) l (fault_breaks s count (fault_at s count) (at_fault s count l)) (kept_to (fault_at s count) (omega arith))
      go false false true p q r = passing (ltb-false max_comparisons count p) (kept_to (length s) (ltb-false (fault_at s count) (length s) q)) (eqb-true (height 0 s) 1 r)
      go false false false p q r = at_end (ltb-false max_comparisons count p) (kept_to (length s) (ltb-false (fault_at s count) (length s) q)) (eqb-false (height 0 s) 1 r)

  -- two places at which a first word breaks a rule are one
  one_place : (i j : ℕ) → Breaks s count i → KeptTo s count i → Breaks s count j → KeptTo s count j → i ≡ j
  one_place i j bi ki bj kj =
      let p : i < j → ⊥ = λ l. kj i l bi in
      let q : j < i → ⊥ = λ l. ki j l bj in
      omega arith

  -- no other answer says it: what each says leaves one answer
  pub says_one : (a b : Answer (Unit {0})) → Says s count a → Says s count b → a ≡ b
  says_one a b (too_many p) (too_many q) = refl
  says_one a b (too_many p) (at_word j fq lq bq kq) = absurd (omega arith)
  says_one a b (too_many p) (at_end fq kq hq) = absurd (omega arith)
  says_one a b (too_many p) (passing fq kq hq) = absurd (omega arith)
  says_one a b (at_word i fp lp bp kp) (too_many q) = absurd (omega arith)
  says_one a b (at_word i fp lp bp kp) (at_word j fq lq bq kq) = ap (λ n. refused 30 n 1) (one_place i j bp kp bq kq)
  says_one a b (at_word i fp lp bp kp) (at_end fq kq hq) = absurd (kq i lp bp)
  says_one a b (at_word i fp lp bp kp) (passing fq kq hq) = absurd (kq i lp bp)
  says_one a b (at_end fp kp hp) (too_many q) = absurd (omega arith)
  says_one a b (at_end fp kp hp) (at_word j fq lq bq kq) = absurd (kp j lq bq)
  says_one a b (at_end fp kp hp) (at_end fq kq hq) = refl
  says_one a b (at_end fp kp hp) (passing fq kq hq) = absurd (hp hq)
  says_one a b (passing fp kp hp) (too_many q) = absurd (omega arith)
  says_one a b (passing fp kp hp) (at_word j fq lq bq kq) = absurd (kp j lq bq)
  says_one a b (passing fp kp hp) (at_end fq kq hq) = absurd (hq hp)
  says_one a b (passing fp kp hp) (passing fq kq hq) = refl

  -- 30 below the length: the word there breaks a rule, and no earlier word does
  pub word_at_fault : (i : ℕ) → checked_program s count ≡ refused 30 i 1 → i < length s → Breaks s count i × KeptTo s count i
  word_at_fault i e l = go (checked_program s count) check_says e
    where
      go : (a : Answer (Unit {0})) → Says s count a → a ≡ refused 30 i 1 → Breaks s count i × KeptTo s count i
      go a (too_many p) e = let z : ◌≡◌ {A = ℕ} 31 30 = cc in absurd (omega arith)
      go a (at_word j f m b k) e = let z : j ≡ i = cc in rw (← z) (b, k)
      go a (at_end f k h) e = let z : length s ≡ i = cc in absurd (omega arith)
      go a (passing f k h) e = let z : ◌≡◌ {A = ℕ} 0 1 = cc in absurd (omega arith)

  -- 30 at the length: no word breaks a rule, and the end is wrong
  pub end_at_fault : checked_program s count ≡ refused 30 (length s) 1 → KeptTo s count (length s) × (height 0 s ≡ 1 → ⊥)
  end_at_fault e = go (checked_program s count) check_says e
    where
      go : (a : Answer (Unit {0})) → Says s count a → a ≡ refused 30 (length s) 1 → KeptTo s count (length s) × (height 0 s ≡ 1 → ⊥)
      go a (too_many p) e = let z : ◌≡◌ {A = ℕ} 31 30 = cc in absurd (omega arith)
      go a (at_word j f m b k) e = let z : j ≡ length s = cc in absurd (omega arith)
      go a (at_end f k h) e = (k, h)
      go a (passing f k h) e = let z : ◌≡◌ {A = ℕ} 0 1 = cc in absurd (omega arith)
