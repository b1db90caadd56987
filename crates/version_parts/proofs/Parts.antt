-- The laws of words, separators and counted parts. Assumes nothing.
use mathlib.Core.Path.{◌≡◌, refl, sym, ap, ◌∙◌}
use mathlib.Core.Bool.{Bool, true, false, cond, not, ◌||◌, false≢true, true≢false}
use mathlib.Core.List.{List, [], ◌∷◌, map}
use Prim.Native.Nat.{ℕ, ◌+◌, ◌^◌, ◌≤◌, ◌<◌}
use native.Mathlib.Nat.{add_assoc, add-zero}
use native.Mathlib.Omega.{arith}
use borrow.Author.Tests.{lt-ltb, le-ltb, not-true, ne_eqb}
use lib.Dec.{eqb}
use lib.ListN.{length, get_or, drop, length-drop, drop_of_length-le}
use lib.Seq.{drop-cons, drop-drop, get_or-drop}
use native.Mathlib.Numerals.{add-one}
use Rattle.std.proofs.Common.{Bor}
use mir.Syntax.{w64}
use mir.Val.{Fits}
use Rattle.std.proofs.lemmas.Bool.{and_parts}
use Rattle.text.proofs.Places.{places}
use Rattle.cursor.proofs.Laws.{word}
use Rattle.text.proofs.Words.{begins_fits}
use Rattle.text.specs.Class.{is_letter, is_capital, within}
use Rattle.text.specs.Scan.{byte_at}
use Rattle.text.specs.Word.{begins_by}
use Rattle.version_number.specs.Place.{past}
use Rattle.version_number.specs.Number.{number_len}
use Rattle.version_parts.specs.Part.{says, is_letter_of, lettered, all_lettered, word_len, sep_len, count_len, part_len, post_len, post_words}

module _ (s : List ℕ) (at : ℕ) where
  pub byte_drop : byte_at (drop at s) 0 ≡ byte_at s at
  byte_drop = get_or-drop at s 0 0 ∙ ap (byte_at s) (add-zero at)

  -- one of the words, from the tests in their order
  module _ (w : List ℕ) (words : List (List ℕ)) (r : Bool) (test : r ≡ says w (drop at s)) where
    pub word_here_lem : (n : ℕ) → r ≡ true → length w ≡ n → at + n ≡ past (word_len (w ∷ words)) s at
    unfolding word_len
    word_here_lem n h e = rw (← test, h, e)

    pub word_next : (e : ℕ) → r ≡ false → e ≡ past (word_len words) s at → e ≡ past (word_len (w ∷ words)) s at
    unfolding word_len
    word_next e h later = rw (← test, h) later

  pub word_fits : (w : List ℕ) (r : Bool) → length s < 2 ^ 64 → at < 2 ^ 64 → r ≡ says w (drop at s) → r ≡ true → Fits w64 (at + length w)
  word_fits w r room place h e = record { fits = omega (arith, begins_fits is_letter_of w (drop at s) (sym h ∙ e), length-drop at s) }

  pub word_none : at ≡ past (word_len []) s at
  unfolding word_len
  word_none = omega arith

  -- a part: separator, word, number
  module _ (words : List (List ℕ)) (from word : ℕ) (sep : from ≡ past sep_len s at) (found : word ≡ past (word_len words) s from) where
    word_here : ℕ
    word_here = word_len words (drop (sep_len (drop at s)) (drop at s))

    word_is : word ≡ from + word_here
    unfolding word_here
    word_is = found ∙ ap (λ (l : List ℕ). from + word_len words l) (ap (λ (n : ℕ). drop n s) sep ∙ sym (drop-drop (sep_len (drop at s)) at s))

    pub part_there : (e : ℕ) → from < word → e ≡ past count_len s word → e ≡ past (part_len words) s at
    unfolding part_len word_here
    part_there e h end =
        let some : 0 < word_here = omega (arith, word_is) in
        let place : word ≡ at + (sep_len (drop at s) + word_here) = omega (arith, word_is) in
        let rest : drop word s ≡ drop (sep_len (drop at s) + word_here) (drop at s) = ap (λ (n : ℕ). drop n s) place ∙ sym (drop-drop (sep_len (drop at s) + word_here) at s) in
        rw (lt-ltb 0 word_here some) (end ∙ rw (rest, place) (add_assoc at (sep_len (drop at s) + word_here) _))

    pub part_none : word ≤ from → at ≡ past (part_len words) s at
    unfolding part_len word_here
    part_none h = let none : word_here ≡ 0 = omega (arith, word_is) in rw none (omega arith)

  -- a post part, which may be `-` and a number
  module _ (r : Bool) (test : r ≡ eqb (byte_at s at) 45) where
    pub post_dash : (e : ℕ) → r ≡ true → e ≡ past number_len s (at + 1) → at + 1 < e → e ≡ past post_len s at
    unfolding post_len
    post_dash e h number l =
        let n : e ≡ at + (1 + number_len (drop 1 (drop at s))) = number ∙ rw (← drop-drop 1 at s) (add_assoc at 1 _) in
        rw (byte_drop, ← test, h, lt-ltb 0 (number_len (drop 1 (drop at s))) (omega arith)) n

    pub post_short : (e p : ℕ) → r ≡ true → e ≡ past number_len s (at + 1) → e ≤ at + 1 → p ≡ past (part_len post_words) s at → p ≡ past post_len s at
    unfolding post_len
    post_short e p h number l word =
        let n : e ≡ at + (1 + number_len (drop 1 (drop at s))) = number ∙ rw (← drop-drop 1 at s) (add_assoc at 1 _) in
        rw (byte_drop, ← test, h, le-ltb 0 (number_len (drop 1 (drop at s))) (omega arith)) word

    pub post_word_lem : (p : ℕ) → r ≡ false → p ≡ past (part_len post_words) s at → p ≡ past post_len s at
    unfolding post_len
    post_word_lem p h word = rw (byte_drop, ← test, h) word

-- the loop over a table of words: `e` is where the first of them ends, if it is not one that was tried
module _ (words : List (Bor (List ℕ))) (s : List ℕ) (at i e : ℕ) (inv : past (word_len (map (λ w. w.now) (drop i words))) s at ≡ e) where
  pub words_done : length words ≤ i → at ≡ e
  words_done h = word_none s at ∙ ap (λ (l : List (Bor (List ℕ))). past (word_len (map (λ w. w.now) l)) s at) (sym (drop_of_length-le words h)) ∙ inv

  module _ (d : Bor (List ℕ)) (h : i < length words) (r : Bool) (test : r ≡ says (get_or words i d).now (drop at s)) where
    left : map (λ w. w.now) (drop i words) ≡ (get_or words i d).now ∷ map (λ w. w.now) (drop (i + 1) words)
    left = rw add-one (ap (map (λ w. w.now)) (drop-cons words i d h))

    pub words_found : r ≡ true → at + length (get_or words i d).now ≡ e
    words_found t = word_here_lem s at _ _ r test _ t refl ∙ ap (λ (l : List (List ℕ)). past (word_len l) s at) (sym left) ∙ inv

    pub words_turn : r ≡ false → past (word_len (map (λ w. w.now) (drop (i + 1) words))) s at ≡ e
    words_turn t = word_next s at _ _ r test _ t refl ∙ ap (λ (l : List (List ℕ)). past (word_len l) s at) (sym left) ∙ inv

-- a byte that is no letter is alike to none
not_alike : (b c : ℕ) → is_letter b ≡ false → within 97 122 c ≡ true → is_letter_of b c ≡ false
not_alike b c out low = go (within 97 122 b) (is_capital b) refl refl out
  where
    go : (t u : Bool) → within 97 122 b ≡ t → is_capital b ≡ u → (t || u) ≡ false → eqb (cond u (b + 32) b) c ≡ false
    go true u p q h = absurd (true≢false h)
    go false true p q h = absurd (true≢false h)
    go false false p q h = ne_eqb b c (λ e. true≢false (sym low ∙ ap (within 97 122) (sym e) ∙ p))

says_none : (w s : List ℕ) → lettered w ≡ true → is_letter (byte_at s 0) ≡ false → says w s ≡ false
unfolding begins_by
says_none [] s low out = absurd (false≢true low)
says_none (c ∷ w) [] low out = refl
says_none (c ∷ w) (b ∷ s) low out = rw (not_alike b c out low)

pub no_letter : (words : List (List ℕ)) (s : List ℕ) → all_lettered words ≡ true → is_letter (byte_at s 0) ≡ false → word_len words s ≡ 0
unfolding word_len
no_letter [] s low out = refl
no_letter (w ∷ words) s low out =
    let (first, rest) = and_parts (lettered w) (all_lettered words) low in
    rw (says_none w s first out) (no_letter words s rest out)

pub lacks_word : (words : List (List ℕ)) (s : List ℕ) (at : ℕ) (r : Bool) → r ≡ not (is_letter (byte_at s at)) → r ≡ true → all_lettered words ≡ true → at ≡ past (word_len words) s at
lacks_word words s at r test h low =
    let out : is_letter (byte_at (drop at s) 0) ≡ false = ap is_letter (byte_drop s at) ∙ not-true (is_letter (byte_at s at)) (sym test ∙ h) in
    rw (no_letter words (drop at s) low out) (omega arith)

pub ruleset part = (word_fits, words_done, words_found, words_turn, part_there, part_none, post_dash, post_short, post_word_lem, lacks_word, places, word)
