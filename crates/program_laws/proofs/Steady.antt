-- The check passes exactly what document 01's stack rules allow. Assumes nothing.
use mathlib.Core.Path.{◌≡◌, refl, sym, ◌∙◌}
use mathlib.Core.Bool.{Bool, true, false, cond, false≢true, true≢false}
use mathlib.Core.List.{List, [], ◌∷◌}
use Prim.Native.Nat.{ℕ, zero, suc, ◌+◌, ◌≤◌, ◌<◌, zero-le}
use native.Mathlib.Nat.{zero-add}
use native.Mathlib.Numerals.{add-one}
use native.Mathlib.Omega.{arith}
use borrow.Author.Tests.{lt-ltb, le-ltb, le-leb, ltb-true, ltb-false, leb-true, eqb-true}
use lib.Dec.{ltb, eqb}
use lib.ListN.{length, take}
use Rattle.std.proofs.lemmas.Bool.{and_parts}
use Rattle.text.proofs.Laws.{skip_start}
use Rattle.text.proofs.Reach.{skip_in, skip_out, skip_is}
use Rattle.refusal.specs.Answer.{refused, passes}
use Rattle.text.specs.Scan.{byte_at}
use Rattle.refusal.specs.declared.place.ComparisonNumber.{ComparisonNumber}
use Rattle.program_check.proofs.Walk.{height_next, places_length, places_at, fault_within}
use Rattle.program_check.specs.Check.{keeps, places, fault_at, checked_program}
use Rattle.program_check.specs.Rules.{max_words, max_slots, is_operator, after, height, StackRules, allowed}
use Rattle.cursor.specs.Limits.{max_comparisons}
use Rattle.program_check.specs.Word.{word}
use Rattle.program_check.specs.declared.word.Word.{Word}
use Rattle.program_check.specs.declared.word.Word.TheVariants.{Push, And, Or, Yes, Unknown}

-- each word may come where it stands
abbrev pub Each : List ℕ → ℕ → Type 0
Each s count = (i : ℕ) → i < length s → allowed count (height 0 (take i s)) (word (byte_at s i)) ≡ true

-- what the check finds of a program that passes
pub record Kept (s : List ℕ) (count : ℕ) : Type 0 where
  pub few : count ≤ max_comparisons
  pub short : length s ≤ max_words
  pub each : Each s count
  pub one : height 0 s ≡ 1

module _ (s : List ℕ) (count : ℕ) where
  -- no word before the first fault is at fault, and the word there is
  pub before_fault : (i : ℕ) → i < fault_at s count → keeps s count i ≡ true
  unfolding fault_at
  before_fault i l =
      let p : 0 + i ≡ i = zero-add i in
      let q = skip_start (keeps s count) (places 0 (length s)) in
      let w = fault_within s count in
      rw (places_at 0 (length s) i (omega arith), p) at (skip_in (keeps s count) (places 0 (length s)) 0 0 i zero-le (omega arith))

  pub at_fault : fault_at s count < length s → keeps s count (fault_at s count) ≡ false
  unfolding fault_at
  at_fault l =
      let p : 0 + fault_at s count ≡ fault_at s count = zero-add (fault_at s count) in
      rw (skip_start (keeps s count) (places 0 (length s)), places_at 0 (length s) (fault_at s count) l, p) at
      (skip_out (keeps s count) (places 0 (length s)) 0 0 (omega (arith, skip_start (keeps s count) (places 0 (length s)), places_length 0 (length s))))

  -- where each may come, and there are at most 127, none is at fault
  keeps_none : length s ≤ max_words → Each s count → fault_at s count ≡ length s
  unfolding fault_at
  keeps_none short each =
      sym (skip_start (keeps s count) (places 0 (length s)))
      ∙ skip_is (keeps s count) (places 0 (length s)) 0 0 (length s) zero-le (omega (arith, places_length 0 (length s)))
      (λ k from l. rw (places_at 0 (length s) k l, zero-add, lt-ltb k max_words (omega arith)) (each k l))
      (λ l. absurd (omega (arith, places_length 0 (length s))))

  pub passes_kept : checked_program s count ≡ passes → Kept s count
  passes_kept h = go (ltb max_comparisons count) (ltb (fault_at s count) (length s)) (eqb (height 0 s) 1) refl refl refl h
    where
      go : (t u v : Bool) → ltb max_comparisons count ≡ t → ltb (fault_at s count) (length s) ≡ u → eqb (height 0 s) 1 ≡ v →
          cond t (refused 31 0 1) (cond u (refused 30 (fault_at s count) 1) (cond v passes (refused 30 (length s) 1))) ≡ passes → Kept s count
      go true u v p q r h = let z : ◌≡◌ {A = ℕ} 0 1 = cc in absurd (omega arith)
      go false true v p q r h = let z : ◌≡◌ {A = ℕ} 0 1 = cc in absurd (omega arith)
      go false false false p q r h = let z : ◌≡◌ {A = ℕ} 0 1 = cc in absurd (omega arith)
      go false false true p q r h =
          let whole : fault_at s count ≡ length s = omega (arith, fault_within s count, ltb-false (fault_at s count) (length s) q) in
          let good : (i : ℕ) → i < length s → keeps s count i ≡ true = λ i l. before_fault i (omega arith) in
          let long : max_words < length s → ⊥ = λ l. false≢true (and_parts (ltb max_words max_words) (allowed count (height 0 (take max_words s)) (word (byte_at s max_words))) (good max_words l)).0 in
          record {
            few = ltb-false max_comparisons count p;
            short = omega arith;
            each = λ i l. (and_parts (ltb i max_words) (allowed count (height 0 (take i s)) (word (byte_at s i))) (good i l)).1;
            one = eqb-true (height 0 s) 1 r;
          }

  pub kept_passes : Kept s count → checked_program s count ≡ passes
  kept_passes k = rw (le-ltb max_comparisons count k.few, keeps_none k.short k.each, le-ltb (length s) (length s) (omega arith), k.one)

-- what a word that may come shows
module _ (count h : ℕ) where
  pub allowed_known : (w : Word) → allowed count h w ≡ true → w ≡ Unknown → ⊥
  allowed_known w a e = false≢true (rw e at a)

  pub allowed_below : (w : Word) (k : ComparisonNumber) → allowed count h w ≡ true → w ≡ Push k → k.0 < count
  allowed_below w k a e = ltb-true k.0 count (and_parts (ltb k.0 count) (ltb h max_slots) (rw e at a)).0

  pub allowed_finds : (w : Word) → allowed count h w ≡ true → is_operator w ≡ true → 2 ≤ h
  allowed_finds (Push k) a o = absurd (false≢true o)
  allowed_finds And a o = leb-true 2 h a
  allowed_finds Or a o = leb-true 2 h a
  allowed_finds Yes a o = absurd (false≢true o)
  allowed_finds Unknown a o = absurd (false≢true o)

  pub allowed_room : (w : Word) → allowed count h w ≡ true → is_operator w ≡ false → h < max_slots
  allowed_room (Push k) a o = ltb-true h max_slots (and_parts (ltb k.0 count) (ltb h max_slots) a).1
  allowed_room And a o = absurd (true≢false o)
  allowed_room Or a o = absurd (true≢false o)
  allowed_room Yes a o = ltb-true h max_slots a
  allowed_room Unknown a o = absurd (false≢true a)

  allowed_stand : (w : Word) → allowed count h w ≡ true → h ≤ max_slots → after h w ≤ max_slots
  allowed_stand (Push k) a l = omega (arith, ltb-true h max_slots (and_parts (ltb k.0 count) (ltb h max_slots) a).1)
  allowed_stand And a l = omega arith
  allowed_stand Or a l = omega arith
  allowed_stand Yes a l = omega (arith, ltb-true h max_slots a)
  allowed_stand Unknown a l = l

  rules_allow : (w : Word) → (w ≡ Unknown → ⊥) → ((k : ComparisonNumber) → w ≡ Push k → k.0 < count) → (is_operator w ≡ true → 2 ≤ h) → after h w ≤ max_slots → allowed count h w ≡ true
  rules_allow (Push k) known below finds stand = rw (lt-ltb k.0 count (below k refl), lt-ltb h max_slots (omega arith))
  rules_allow And known below finds stand = le-leb 2 h (finds refl)
  rules_allow Or known below finds stand = le-leb 2 h (finds refl)
  rules_allow Yes known below finds stand = lt-ltb h max_slots (omega arith)
  rules_allow Unknown known below finds stand = absurd (known refl)

-- an empty program leaves nothing
kept_some : (s : List ℕ) → height 0 s ≡ 1 → 1 ≤ length s
unfolding height
kept_some [] e = absurd (omega arith)
kept_some (b ∷ s) e = omega arith

module _ (s : List ℕ) (count : ℕ) where
  -- at most 35 values stand at any time
  kept_stand : Each s count → (i : ℕ) → i ≤ length s → height 0 (take i s) ≤ max_slots
  unfolding height
  kept_stand each zero l = omega arith
  kept_stand each (suc i) l = rw (← add-one i, height_next s i (omega arith)) (allowed_stand count (height 0 (take i s)) (word (byte_at s i)) (each i (omega arith)) (kept_stand each i (omega arith)))

  -- what the check passes keeps document 01's rules
  pub passes_rules : checked_program s count ≡ passes → StackRules s count
  passes_rules h = let k = passes_kept s count h in record {
    few = k.few;
    some = kept_some s k.one;
    short = k.short;
    known = λ i l. allowed_known count (height 0 (take i s)) (word (byte_at s i)) (k.each i l);
    below = λ i n l. allowed_below count (height 0 (take i s)) (word (byte_at s i)) n (k.each i l);
    finds = λ i l. allowed_finds count (height 0 (take i s)) (word (byte_at s i)) (k.each i l);
    stand = kept_stand k.each;
    one = k.one;
  }

  -- and what keeps them passes
  pub rules_pass : StackRules s count → checked_program s count ≡ passes
  rules_pass r = kept_passes s count (record {
    few = r.few;
    short = r.short;
    each = λ i l. rules_allow count (height 0 (take i s)) (word (byte_at s i)) (r.known i l) (λ n. r.below i n l) (r.finds i l) (rw (height_next s i l) at (r.stand (i + 1) (omega arith)));
    one = r.one;
  })
