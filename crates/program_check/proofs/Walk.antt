-- The laws of heights and of the first fault, which answer the check's loop. Assumes nothing.
use mathlib.Core.Path.{◌≡◌, refl, sym, ap, ◌∙◌}
use mathlib.Core.Bool.{Bool, true, false, cond}
use mathlib.Core.List.{List, [], ◌∷◌, ◌++◌}
use Prim.Native.Nat.{ℕ, zero, suc, ◌+◌, ◌≤◌, ◌<◌, zero-le}
use native.Mathlib.Nat.{zero-add}
use native.Mathlib.Numerals.{add-one}
use native.Mathlib.Omega.{arith}
use lib.Dec.{ltb, eqb}
use lib.ListN.{length, take, get_or}
use borrow.Author.Tests.{lt-ltb, le-ltb, ne_eqb}
use lib.Seq.{take-suc, take_all}
use Rattle.refusal.proofs.Numbers.{given_is}
use Rattle.text.proofs.Cases.{cases}
use Rattle.text.proofs.Laws.{skip_start, turn, stopped, ended}
use Rattle.text.proofs.Reach.{run_le}
use Rattle.refusal.specs.Answer.{Answer, good, refused, passes}
use Rattle.refusal.specs.Refusal.{refusal, given, told}
use Rattle.std.specs.Result.{IsErrAnd}
use Rattle.std.proofs.lemmas.Result.{err_from_is_err_and}
use Rattle.std.specs.Prelude.{Option, Some, None, Result, Ok, Err}
use Rattle.text.specs.Scan.{skip, byte_at}
use Rattle.refusal.specs.declared.fault.Fault.TheVariants.{ProgramBad}
use Rattle.refusal.specs.declared.fault.Refusal.{Refusal}
use Rattle.program_check.specs.Check.{keeps, places, fault_at, checked_words}
use Rattle.program_check.specs.Rules.{after, height, sound}
use Rattle.program_check.specs.Word.{word}
use Rattle.program_check.specs.inner.Heights.{next_height, height_at_end}
use Rattle.program_check.specs.declared.word.Word.{Word}

-- the height after two programs, one behind the other
pub height_append : (h : ℕ) (s t : List ℕ) → height h (s ++ t) ≡ height (height h s) t
unfolding height
height_append h [] t = refl
height_append h (b ∷ s) t = height_append (after h (word b)) s t

-- and after one word more
pub height_next : (s : List ℕ) (at : ℕ) → at < length s → height 0 (take (at + 1) s) ≡ after (height 0 (take at s)) (word (byte_at s at))
unfolding height
height_next s at l = rw (add-one, take-suc s at 0, height_append)

pub places_length : (a n : ℕ) → length (places a n) ≡ n
places_length a zero = refl
places_length a (suc n) = ap suc (places_length (suc a) n)

pub places_at : (a n i : ℕ) → i < n → get_or (places a n) i 0 ≡ a + i
places_at a zero i l = absurd (omega arith)
places_at a (suc n) zero l = omega arith
places_at a (suc n) (suc i) l = places_at (suc a) n i (omega arith) ∙ omega arith

-- the loop of the check: no word before `at` is at fault, and h values stand
pub record Walked (s : List ℕ) (count at h : ℕ) : Type 0 where
  pub place : skip (keeps s count) (places 0 (length s)) at ≡ fault_at s count
  pub high : h ≡ height 0 (take at s)
  pub within : at ≤ length s

pub walk_start : (s : List ℕ) (count : ℕ) → Walked s count 0 0
unfolding fault_at height
walk_start s count = record { place = skip_start (keeps s count) (places 0 (length s)); high = refl; within = zero-le }

module _ (s : List ℕ) (count at h : ℕ) (inv : Walked s count at h) where
  module _ (w : Word) (l : at < length s) (made : w ≡ word (byte_at s at)) (found : Option ℕ) (is : found ≡ next_height w at count h) where
    inside : at < length (places 0 (length s))
    inside = rw places_length l

    tested : (r : Bool) → sound count at h w ≡ r → r ≡ keeps s count (get_or (places 0 (length s)) at 0)
    tested r test = rw (places_at 0 (length s) at l, zero-add, ← inv.high, ← made) (sym test)

    pub walk_turn : (n : ℕ) → found ≡ Some n → Walked s count (at + 1) n
    walk_turn n e = go (sound count at h w) refl (sym e ∙ is)
      where
        go : (r : Bool) → sound count at h w ≡ r → Some n ≡ cond r (Some (after h w)) None → Walked s count (at + 1) n
        go true test e = record {
          place = turn (keeps s count) (places 0 (length s)) at (fault_at s count) inv.place 0 inside true (tested true test) refl;
          high = rw (height_next s at l, ← inv.high, ← made) (cc);
          within = omega arith;
        }
        go false test e = cc

    pub walk_stop : (why : Refusal) → found ≡ None → why ≡ refusal ProgramBad at 1 → given why ≡ height_at_end s count
    walk_stop why e f = go (sound count at h w) refl (sym e ∙ is)
      where
        go : (r : Bool) → sound count at h w ≡ r → None ≡ cond r (Some (after h w)) None → given why ≡ height_at_end s count
        go true test e = cc
        go false test e =
            let here = stopped (keeps s count) (places 0 (length s)) at (fault_at s count) inv.place 0 inside false (tested false test) refl in
            rw (← here, lt-ltb at (length s)) (given_is why ProgramBad at at 1 30 f refl refl)

  pub walk_end : length s ≤ at → good h ≡ height_at_end s count
  walk_end l =
      let here = ended (keeps s count) (places 0 (length s)) at (fault_at s count) inv.place (rw places_length l) in
      let whole : take at s ≡ s = take_all at s l in
      rw (← here, le-ltb at (length s), inv.high, whole)

-- the first fault lies within the program
pub fault_within : (s : List ℕ) (count : ℕ) → fault_at s count ≤ length s
unfolding fault_at
fault_within s count = omega (arith, run_le (keeps s count) (places 0 (length s)), places_length 0 (length s))

-- what the check makes of the walk's answer
module _ (s : List ℕ) (count : ℕ) (k : Result ℕ Refusal) (made : told k ≡ height_at_end s count) where
  pub words_refused : (z : Result (Unit {0}) Refusal) (why : Refusal) → k ≡ Err why → IsErrAnd z (λ e. e ≡ why) → told z ≡ checked_words s count
  words_refused z why e passed = let out = err_from_is_err_and z passed in rw (out.1, out.2) (go (ltb (fault_at s count) (length s)) (sym (ap told e) ∙ made))
    where
      go : (t : Bool) → given why ≡ cond t (refused 30 (fault_at s count) 1) (good (height 0 s)) → given why ≡ cond t (refused 30 (fault_at s count) 1) (cond (eqb (height 0 s) 1) passes (refused 30 (length s) 1))
      go true f = unfold given in cc
      go false f = unfold given in cc

  module _ (h : ℕ) (e : k ≡ Ok h) where
    at_end : (z : Answer (Unit {0})) → z ≡ cond (eqb h 1) passes (refused 30 (length s) 1) → z ≡ checked_words s count
    at_end z f = go (ltb (fault_at s count) (length s)) (sym (ap told e) ∙ made)
      where
        go : (t : Bool) → good h ≡ cond t (refused 30 (fault_at s count) 1) (good (height 0 s)) → z ≡ cond t (refused 30 (fault_at s count) 1) (cond (eqb (height 0 s) 1) passes (refused 30 (length s) 1))
        go true g = cc
        go false g = let same : h ≡ height 0 s = cc in rw (← same) f

    pub words_end : (why : Refusal) → (h ≡ 1 → ⊥) → why ≡ refusal ProgramBad (length s) 1 → given why ≡ checked_words s count
    words_end why n f = at_end (given why) (rw (ne_eqb h 1 n) (given_is why ProgramBad (length s) (length s) 1 30 f refl refl))

pub ruleset walks = (walk_start, walk_turn, walk_stop, walk_end, given_is, cases)
