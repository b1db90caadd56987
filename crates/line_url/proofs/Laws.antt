-- The laws of a URL's end, which answer the loop that finds it. Assumes nothing.
use mathlib.Core.Path.{◌≡◌, refl, sym, ap, ◌∙◌}
use mathlib.Core.Bool.{Bool, true, false, not, ◌||◌, true≢false}
use mathlib.Core.List.{List}
use Prim.Native.Nat.{ℕ, zero, suc, ◌+◌, ◌-◌, ◌≤◌, ◌<◌}
use native.Mathlib.Omega.{arith}
use borrow.Author.Tests.{not-true, not-false, lt-ltb, le-ltb, leb-false, eqb-true}
use lib.Dec.{leb, eqb}
use lib.ListN.{length}
use Rattle.text.proofs.Cases.{by_order}
use Rattle.std.proofs.lemmas.Bool.{and_parts, or_parts}
use Rattle.cursor.proofs.Laws.{scan}
use Rattle.refusal.proofs.Numbers.{given_is}
use Rattle.text.proofs.Laws.{skip_on, skip_end}
use Rattle.text.proofs.Reach.{skip_from, skip_within, skip_in, skip_out, skip_is}
use Rattle.refusal.specs.Answer.{good}
use Rattle.text.specs.Class.{is_space, is_word_byte}
use Rattle.refusal.specs.Refusal.{span, refusal, given}
use Rattle.text.specs.Scan.{skip, byte_at}
use Rattle.refusal.specs.declared.fault.Fault.TheVariants.{UrlEmpty}
use Rattle.refusal.specs.declared.fault.Refusal.{Refusal}
use Rattle.refusal.specs.declared.place.Span.{Span}
use Rattle.line_url.specs.Url.{is_break, is_blank, is_mark, closes_at, marked_at, stops_at, first_from, url_end, goes_on, url_at}

module _ (s : List ℕ) (at : ℕ) where
  -- the first place, by its test
  pub end_on : at < length s → stops_at s at ≡ false → url_end s (suc at) ≡ url_end s at
  unfolding url_end first_from
  end_on h t =
      let k : length s - at ≡ suc (length s - suc at) = omega arith in
      rw (k, t)

  pub end_here : at < length s → stops_at s at ≡ true → url_end s at ≡ at
  unfolding url_end first_from
  end_here h t =
      let k : length s - at ≡ suc (length s - suc at) = omega arith in
      rw (k, t)

  pub end_last : length s ≤ at → url_end s at ≡ at
  unfolding url_end first_from
  end_last h = let k : length s - at ≡ 0 = omega arith in rw k

-- places at which it does not stop are passed
pass : (s : List ℕ) (at n : ℕ) → at + n ≤ length s → ((k : ℕ) → at ≤ k → k < at + n → stops_at s k ≡ false) → url_end s (at + n) ≡ url_end s at
pass s at zero h out = let e : at + 0 ≡ at = omega arith in ap (url_end s) e
pass s at (suc n) h out =
    let e : at + suc n ≡ suc at + n = omega arith in
    ap (url_end s) e ∙ pass s (suc at) n (omega arith) (λ k l u. out k (omega arith) (omega arith)) ∙ end_on s at (omega arith) (out at (omega arith) (omega arith))

pub pass_to : (s : List ℕ) (at e : ℕ) → at ≤ e → e ≤ length s → ((k : ℕ) → at ≤ k → k < e → stops_at s k ≡ false) → url_end s e ≡ url_end s at
pass_to s at e l h out =
    let p : at + (e - at) ≡ e = omega arith in
    sym (ap (url_end s) p) ∙ pass s at (e - at) (omega arith) (λ k a b. out k a (omega arith))

-- a run of a class ends at the same place from each of its places
skip_along : (p : ℕ → Bool) (s : List ℕ) (at k : ℕ) → at ≤ length s → at ≤ k → k ≤ skip p s at → skip p s k ≡ skip p s at
skip_along p s at k h l u =
    skip_is p s k 0 (skip p s at) u (skip_within p s at h) (λ j a b. skip_in p s at 0 j (omega arith) b) (skip_out p s at 0)

-- of whitespace none is a mark
pub space_no_mark : (b : ℕ) → is_space b ≡ true → is_mark b ≡ false
space_no_mark b h = go (eqb b 59) (eqb b 35) refl refl
  where
    go : (t u : Bool) → eqb b 59 ≡ t → eqb b 35 ≡ u → (t || u) ≡ false
    go true u p q = let e = eqb-true b 59 p in absurd (true≢false (sym (rw e at h)))
    go false true p q = let e = eqb-true b 35 q in absurd (true≢false (sym (rw e at h)))
    go false false p q = refl

-- two of three tests
two_of : (a b c : Bool) → (a || c) ≡ true → (a || b || c) ≡ true
two_of true b c h = refl
two_of false true c h = refl
two_of false false c h = h

pub middle : (a c : Bool) → (a || true || c) ≡ true
middle true c = refl
middle false c = refl

-- no stop inside a word
word_passed : (s : List ℕ) (at : ℕ) → url_end s (skip is_word_byte s at) ≡ url_end s at
unfolding stops_at
word_passed s at =
    by_order at (length s)
    (λ h. pass_to s at (skip is_word_byte s at) (skip_from is_word_byte s at) (skip_within is_word_byte s at (omega arith))
    (λ k l u. let plain : is_space (byte_at s k) ≡ false = not-true (is_space (byte_at s k)) (skip_in is_word_byte s at 0 k l u) in rw plain))
    (λ h. ap (url_end s) (skip_end is_word_byte s at h))

-- whitespace that breaks no line is whitespace
blank_space : (s : List ℕ) (at : ℕ) → at ≤ length s → skip is_blank s at ≤ skip is_space s at
blank_space s at h =
    by_order (skip is_space s at) (skip is_blank s at)
    (λ l. let in-blank = skip_in is_blank s at 0 (skip is_space s at) (skip_from is_space s at) l in
    let space = (and_parts (is_space (byte_at s (skip is_space s at))) (not (is_break (byte_at s (skip is_space s at)))) in-blank).0 in
    absurd (true≢false (sym space ∙ skip_out is_space s at 0 (omega (arith, skip_within is_blank s at h)))))
    (λ l. l)

-- the loop: a word from `at` ends at `stop`, and `e` is where the URL ends
module _ (s : List ℕ) (at e : ℕ) (inv : url_end s at ≡ e) (stop : ℕ) (word : stop ≡ skip is_word_byte s at) where
  stop_end : url_end s stop ≡ e
  stop_end = ap (url_end s) word ∙ word_passed s at ∙ inv

  stop_space : stop < length s → is_space (byte_at s stop) ≡ true
  stop_space h = not-false (is_space (byte_at s stop)) (rw (← word) at (skip_out is_word_byte s at 0 (rw (← word) h)))

  module _ (r : Bool) (test : r ≡ (marked_at s stop || closes_at s stop)) where
    pub url_closed : r ≡ true → stop ≡ e
    unfolding stops_at
    url_closed hit =
        by_order stop (length s)
        (λ h. sym (end_here s stop h (rw (stop_space h) (two_of (marked_at s stop) (is_break (byte_at s stop)) (closes_at s stop) (sym test ∙ hit)))) ∙ stop_end)
        (λ h. sym (end_last s stop h) ∙ stop_end)

    module _ (miss : r ≡ false) where
      unmarked : marked_at s stop ≡ false
      unmarked = (or_parts (marked_at s stop) (closes_at s stop) (sym test ∙ miss)).0

      unclosed : closes_at s stop ≡ false
      unclosed = (or_parts (marked_at s stop) (closes_at s stop) (sym test ∙ miss)).1

      past_within : skip is_space s stop < length s
      unfolding closes_at
      past_within = leb-false (length s) (skip is_space s stop) (or_parts (leb (length s) (skip is_space s stop)) (is_mark (byte_at s (skip is_space s stop))) unclosed).0

      stop_within : stop < length s
      stop_within = omega (arith, past_within, skip_from is_space s stop)

      -- no stop among the blanks
      blank_free : (k : ℕ) → stop ≤ k → k < skip is_blank s stop → stops_at s k ≡ false
      unfolding stops_at closes_at
      blank_free k l u =
          let blank = and_parts (is_space (byte_at s k)) (not (is_break (byte_at s k))) (skip_in is_blank s stop 0 k l u) in
          let plain : is_break (byte_at s k) ≡ false = not-true (is_break (byte_at s k)) blank.1 in
          let same : skip is_space s k ≡ skip is_space s stop = skip_along is_space s stop k (omega (arith, stop_within)) l (omega (arith, blank_space s stop (omega (arith, stop_within)))) in
          let marked : marked_at s k ≡ false =
          by_order stop k
          (λ after. space_no_mark (byte_at s (k - 1)) (and_parts (is_space (byte_at s (k - 1))) (not (is_break (byte_at s (k - 1)))) (skip_in is_blank s stop 0 (k - 1) (omega arith) (omega arith))).0)
          (λ first. let here : k ≡ stop = omega arith in rw here unmarked) in
          rw (blank.0, marked, plain, same) unclosed

      module _ (past blanks : ℕ) (spaces : past ≡ skip is_space s stop) (found : blanks ≡ skip is_blank s stop) where
        blanks_end : url_end s blanks ≡ e
        blanks_end =
            ap (url_end s) found ∙ pass_to s stop (skip is_blank s stop) (skip_from is_blank s stop) (skip_within is_blank s stop (omega (arith, stop_within))) blank_free ∙ stop_end

        pub url_break : blanks < past → blanks ≡ e
        unfolding stops_at
        url_break h =
            let within : blanks < length s = omega (arith, past_within) in
            let space : is_space (byte_at s blanks) ≡ true = skip_in is_space s stop 0 blanks (rw found (skip_from is_blank s stop)) (rw (← spaces) h) in
            let out : is_blank (byte_at s blanks) ≡ false = rw (← found) at (skip_out is_blank s stop 0 (rw (← found) within)) in
            let broken : is_break (byte_at s blanks) ≡ true = not-false (is_break (byte_at s blanks)) (rw space at out) in
            sym (end_here s blanks within (rw (space, broken) (middle (marked_at s blanks) (closes_at s blanks)))) ∙ blanks_end

        pub url_turn : past ≤ blanks → url_end s past ≡ e
        url_turn h = let same : past ≡ blanks = omega (arith, blank_space s stop (omega (arith, stop_within))) in ap (url_end s) same ∙ blanks_end

        pub url_less : length s - past < length s - at
        url_less =
            omega (arith, past_within, skip_from is_word_byte s at, skip_on is_space s stop 0 stop_within (stop_space stop_within), skip_from is_space s (stop + 1))

-- the answer
module _ (s : List ℕ) (at start end : ℕ) (from : start ≡ skip is_space s at) (to : end ≡ url_end s start) where
  pub url_good : (x : Span) (next : ℕ) → start < end → x ≡ span start (end - start) → next ≡ goes_on s end → good (x, next) ≡ url_at s at
  unfolding url_at
  url_good x next h e n = rw (← from, ← to, lt-ltb start end, e, n)

  pub url_empty : (why : Refusal) → end ≤ start → why ≡ refusal UrlEmpty start 0 → given why ≡ url_at s at
  unfolding url_at
  url_empty why h made = rw (← from, ← to, le-ltb start end) (given_is why UrlEmpty start start 0 13 made refl refl)

pub ruleset url = (url_closed, url_break, url_turn, url_less, url_good, url_empty, scan)
