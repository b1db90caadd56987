-- A number, a segment and joined items are taken whole where what follows does not go on with them. Assumes nothing.
use mathlib.Core.Path.{◌≡◌, refl, ap}
use mathlib.Core.Bool.{Bool, true, false, cond, not, ◌&&◌, ◌||◌, true≢false}
use mathlib.Core.List.{List, [], ◌∷◌, ◌++◌, append_assoc}
use Prim.Native.Nat.{ℕ, zero, suc, ◌+◌, ◌-◌, ◌*◌, ◌<◌, ◌≤◌}
use Prim.Native.Char.{code}
use native.Mathlib.Omega.{arith}
use borrow.Author.Tests.{ltb-true, lt-ltb, le-ltb}
use lib.Dec.{ltb}
use lib.ListN.{length, drop, length-append}
use lib.Seq.{drop_at}
use Rattle.std.proofs.lemmas.Bool.{and_parts}
use Rattle.text.specs.Class.{is_digit, is_alnum, is_letter}
use Rattle.text.specs.Scan.{run, byte_at}
use Rattle.version_language.specs.Appendix.{Regex, none, some, matches, all, one, many, ◌then◌, number, segment, bounded}
use Rattle.version_parts.specs.Joined.{more_len, more}
use Rattle.version_parts.specs.Local.{segment_len}
use Rattle.version_number.specs.Number.{value_from, number_len}

module _ (p : ℕ → Bool) where
  run_none : (w : List ℕ) → p (byte_at w 0) ≡ false → run p w ≡ 0
  unfolding run
  run_none [] h = refl
  run_none (b ∷ w) h = rw h

  pub run_whole : (u w : List ℕ) → all p u ≡ true → p (byte_at w 0) ≡ false → run p (u ++ w) ≡ length u
  unfolding run
  run_whole [] w h stop = run_none w stop
  run_whole (b ∷ u) w h stop =
      let (first, rest) = and_parts (p b) (all p u) h in
      rw (first, run_whole u w rest stop)

  -- a text that is not all of the class stops the run
  run_short : (u w : List ℕ) → all p u ≡ false → run p (u ++ w) < length u
  unfolding run
  run_short [] w h = absurd (true≢false h)
  run_short (b ∷ u) w h = go (p b) h (run_short u w)
    where
      go : (t : Bool) → (t && all p u) ≡ false → (all p u ≡ false → run p (u ++ w) < length u) → cond t (suc (run p (u ++ w))) 0 < suc (length u)
      go true h rest = omega (arith, rest h)
      go false h rest = omega arith

pub value_whole : (v : ℕ) (u w : List ℕ) → all is_digit u ≡ true → is_digit (byte_at w 0) ≡ false → value_from v (u ++ w) ≡ value_from v u
unfolding value_from
value_whole v [] w h stop = go w stop
  where
    go : (w : List ℕ) → is_digit (byte_at w 0) ≡ false → value_from v w ≡ v
    go [] stop = refl
    go (b ∷ w) stop = rw stop
value_whole v (b ∷ u) w h stop =
    let (first, rest) = and_parts (is_digit b) (all is_digit u) h in
    rw (first, value_whole (10 * v + (b - code "0")) u w rest stop)

-- the tests that a number passed
module _ (u : List ℕ) (m : matches number u) where
  pub number_there : 0 < length u
  number_there = ltb-true 0 (length u) (and_parts (ltb 0 (length u)) (all is_digit u) (and_parts (ltb 0 (length u) && all is_digit u) (bounded u) m).0).0

  pub number_digits : all is_digit u ≡ true
  number_digits = (and_parts (ltb 0 (length u)) (all is_digit u) (and_parts (ltb 0 (length u) && all is_digit u) (bounded u) m).0).1

  pub number_whole : (w : List ℕ) → is_digit (byte_at w 0) ≡ false → number_len (u ++ w) ≡ length u
  unfolding number_len
  number_whole w stop =
      rw (value_whole 0 u w number_digits stop, (and_parts (ltb 0 (length u) && all is_digit u) (bounded u) m).1) (run_whole is_digit u w number_digits stop)

  pub number_first : (w : List ℕ) → is_digit (byte_at (u ++ w) 0) ≡ true
  number_first w = go u number_there number_digits
    where
      go : (u : List ℕ) → 0 < length u → all is_digit u ≡ true → is_digit (byte_at (u ++ w) 0) ≡ true
      go [] l h = absurd (omega arith)
      go (b ∷ u) l h = (and_parts (is_digit b) (all is_digit u) h).0

pub number_none : (w : List ℕ) → is_digit (byte_at w 0) ≡ false → number_len w ≡ 0
unfolding number_len
number_none w stop = go (bounded w)
  where
    go : (t : Bool) → cond t (run is_digit w) 0 ≡ 0
    go true = run_none is_digit w stop
    go false = refl

-- a digit is a letter or digit
not_digit : (b : ℕ) → is_alnum b ≡ false → is_digit b ≡ false
not_digit b h = go (is_letter b) (is_digit b) h
  where
    go : (t d : Bool) → (t || d) ≡ false → d ≡ false
    go true d h = absurd (true≢false h)
    go false d h = h

module _ (u : List ℕ) (m : matches segment u) where
  segment_front : (ltb 0 (length u) && all is_alnum u) ≡ true
  segment_front = (and_parts (ltb 0 (length u) && all is_alnum u) (not (all is_digit u) || bounded u) m).0

  pub segment_there : 0 < length u
  segment_there = ltb-true 0 (length u) (and_parts (ltb 0 (length u)) (all is_alnum u) segment_front).0

  pub segment_whole : (w : List ℕ) → is_alnum (byte_at w 0) ≡ false → segment_len (u ++ w) ≡ length u
  unfolding segment_len
  segment_whole w stop =
      rw (run_whole is_alnum u w (and_parts (ltb 0 (length u)) (all is_alnum u) segment_front).1 stop) (go (all is_digit u) refl (and_parts (ltb 0 (length u) && all is_alnum u) (not (all is_digit u) || bounded u) m).1)
    where
      go : (t : Bool) → all is_digit u ≡ t → (not t || bounded u) ≡ true → cond (ltb (run is_digit (u ++ w)) (length u)) (length u) (number_len (u ++ w)) ≡ length u
      go true digits enough =
          let stop : is_digit (byte_at w 0) ≡ false = not_digit (byte_at w 0) stop in
          let n : matches number u = rw (lt-ltb 0 (length u) segment_there, digits, enough) in
          rw (run_whole is_digit u w digits stop, le-ltb (length u) (length u) (omega arith)) (number_whole u n w stop)
      go false digits enough = rw (lt-ltb (run is_digit (u ++ w)) (length u) (run_short is_digit u w digits))

more_zero : (joins : ℕ → Bool) (item : List ℕ → ℕ) (s : List ℕ) → more_len joins item 0 s ≡ 0
unfolding more_len
more_zero joins item s = refl

more_end : (joins : ℕ → Bool) (item : List ℕ → ℕ) (k : ℕ) (s : List ℕ) → (joins (byte_at s 0) && ltb 0 (item (drop 1 s))) ≡ false → more_len joins item (suc k) s ≡ 0
unfolding more_len
more_end joins item k s end = rw end

-- one more item
more_step : (joins : ℕ → Bool) (item : List ℕ → ℕ) (k b : ℕ) (x t : List ℕ) → joins b ≡ true → item (x ++ t) ≡ length x → 0 < length x → more_len joins item (suc k) (b ∷ x ++ t) ≡ 1 + length x + more_len joins item k t
unfolding more_len
more_step joins item k b x t h n there = rw (h, n, lt-ltb 0 (length x) there, drop_at (b ∷ x) t (1 + length x) (omega arith))

-- items behind joining bytes, before a rest that does not go on with one: `c` is the class that an item would go on with
module _ (joins c : ℕ → Bool) (item : List ℕ → ℕ) (r : Regex) (w : List ℕ) (stop : c (byte_at w 0) ≡ false) (between : (b : ℕ) → joins b ≡ true → c b ≡ false) where
  -- what follows an item is not of the class
  pub more_first : (u : List ℕ) → matches (many (one joins then r)) u → c (byte_at (u ++ w) 0) ≡ false
  more_first u none = stop
  more_first u (some a rest e (j, x, f, (b, g, h), m) again) = rw (e, f, g) (between b h)

  module _ (whole : (u w : List ℕ) → matches r u → c (byte_at w 0) ≡ false → item (u ++ w) ≡ length u) (there : (u : List ℕ) → matches r u → 0 < length u)
      (end : (joins (byte_at w 0) && ltb 0 (item (drop 1 w))) ≡ false) where
    more_whole : (k : ℕ) (u : List ℕ) → matches (many (one joins then r)) u → length u ≤ k → more_len joins item k (u ++ w) ≡ length u
    more_whole zero u m room = rw (more_zero joins item (u ++ w)) (omega arith)
    more_whole (suc k) u none room = more_end joins item k w end
    more_whole (suc k) u (some a rest e (j, x, f, (b, g, h), m) again) room =
        let same : u ++ w ≡ b ∷ x ++ (rest ++ w) = rw (e, f, g) (ap (λ (l : List ℕ). b ∷ l) (append_assoc x rest w)) in
        let size : length u ≡ suc (length x + length rest) = rw (e, f, g, length-append x rest) in
        rw (same, more_step joins item k b x (rest ++ w) h (whole x (rest ++ w) m (more_first rest again)) (there x m), more_whole k rest again (omega arith), size) (omega arith)

    pub joined_whole : (u : List ℕ) → matches (many (one joins then r)) u → more joins item (u ++ w) ≡ length u
    unfolding more
    joined_whole u m = more_whole (length (u ++ w)) u m (omega (arith, length-append u w))
