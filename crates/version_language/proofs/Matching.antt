-- Laws of matching: a text is cut at a place, and a run is a text of its class. Assumes nothing.
use mathlib.Core.Path.{◌≡◌, refl, sym, ◌∙◌}
use mathlib.Core.Bool.{Bool, true, false, cond, ◌&&◌, false≢true}
use mathlib.Core.List.{List, [], ◌∷◌}
use mathlib.Core.Logic.{inl, inr}
use Prim.Native.Nat.{ℕ, zero, suc, ◌+◌, ◌-◌, ◌*◌, ◌<◌, ◌≤◌, zero-le, suc-le-suc}
use Prim.Native.Char.{code}
use native.Mathlib.Omega.{arith}
use lib.ListN.{length, take, drop, take-append-drop}
use lib.Seq.{take-add}
use Rattle.std.proofs.lemmas.Bool.{and_parts}
use Rattle.text.specs.Class.{is_digit}
use Rattle.text.specs.Scan.{run, byte_at}
use Rattle.version_language.specs.Appendix.{Regex, matches, one, opt, ◌then◌, all}
use Rattle.version_number.specs.Number.{value_from}

-- a text cut at a place
pub joined : (r q : Regex) (s : List ℕ) (n : ℕ) → matches r (take n s) → matches q (drop n s) → matches (r then q) s
joined r q s n m k = (take n s, drop n s, sym (take-append-drop n s), m, k)

-- and the front of one
pub joined_front : (r q : Regex) (s : List ℕ) (n m : ℕ) → matches r (take n s) → matches q (take m (drop n s)) → matches (r then q) (take (n + m) s)
joined_front r q s n m a b = (take n s, take m (drop n s), take-add n m s, a, b)

-- what is there only if it is longer than nothing
pub perhaps : (r : Regex) (s : List ℕ) (n : ℕ) → (0 < n → matches r (take n s)) → matches (opt r) (take n s)
perhaps r s n there = go n there
  where
    go : (n : ℕ) → (0 < n → matches r (take n s)) → matches (opt r) (take n s)
    go zero h = inl refl
    go (suc n) h = inr (h (omega arith))

-- a byte of a class in front
module _ (p : ℕ → Bool) (end : p 0 ≡ false) (s : List ℕ) where
  pub one_front : p (byte_at s 0) ≡ true → matches (one p) (take 1 s)
  one_front h = go s h
    where
      go : (s : List ℕ) → p (byte_at s 0) ≡ true → matches (one p) (take 1 s)
      go [] h = absurd (false≢true (sym end ∙ h))
      go (b ∷ s) h = (b, refl, h)

  pub opt_one_front : matches (opt (one p)) (take (cond (p (byte_at s 0)) 1 0) s)
  opt_one_front = go (p (byte_at s 0)) refl
    where
      go : (t : Bool) → p (byte_at s 0) ≡ t → matches (opt (one p)) (take (cond t 1 0) s)
      go true h = inr (one_front h)
      go false h = inl refl

-- a run is all of its class
pub run_all : (p : ℕ → Bool) (s : List ℕ) → all p (take (run p s) s) ≡ true
unfolding run
run_all p [] = refl
run_all p (b ∷ s) = go (p b) refl (run_all p s)
  where
    go : (t : Bool) → p b ≡ t → all p (take (run p s) s) ≡ true → all p (take (cond t (suc (run p s)) 0) (b ∷ s)) ≡ true
    go true e rest = rw e rest
    go false e rest = refl

-- and the digits in front say what the whole text's number says
pub value_run : (v : ℕ) (s : List ℕ) → value_from v (take (run is_digit s) s) ≡ value_from v s
unfolding run value_from
value_run v [] = refl
value_run v (b ∷ s) = go (is_digit b) refl (value_run (10 * v + (b - code "0")) s)
  where
    go : (t : Bool) → is_digit b ≡ t → value_from (10 * v + (b - code "0")) (take (run is_digit s) s) ≡ value_from (10 * v + (b - code "0")) s → value_from v (take (cond t (suc (run is_digit s)) 0) (b ∷ s)) ≡ cond t (value_from (10 * v + (b - code "0")) s) v
    go true e rest = rw e rest
    go false e rest = refl

-- a text as long as a run of its class is inside the run
pub all_run : (p : ℕ → Bool) (s : List ℕ) (n : ℕ) → n ≤ length s → all p (take n s) ≡ true → n ≤ run p s
unfolding run
all_run p s zero l h = zero-le
all_run p [] (suc n) l h = l
all_run p (b ∷ s) (suc n) l h =
    let (first, rest) = and_parts (p b) (all p (take n s)) h in
    rw first (suc-le-suc (all_run p s n (omega arith) rest))

-- three tests that held
pub every : (t u v : Bool) → t ≡ true → u ≡ true → v ≡ true → (t && u && v) ≡ true
every t u v a b c = rw (a, b, c)

-- a wider class
pub all_of : (p q : ℕ → Bool) → ((b : ℕ) → p b ≡ true → q b ≡ true) → (s : List ℕ) → all p s ≡ true → all q s ≡ true
all_of p q wider [] h = refl
all_of p q wider (b ∷ s) h =
    let (first, rest) = and_parts (p b) (all p s) h in
    rw (wider b first) (all_of p q wider s rest)
