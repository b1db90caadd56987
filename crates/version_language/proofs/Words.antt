-- Which word is found in front: of two that fit, the list's order takes the longer, and what may follow a word does not make it another. Assumes
-- nothing.
use mathlib.Core.Path.{◌≡◌, refl, sym, ap, ◌∙◌}
use mathlib.Core.Bool.{Bool, true, false, cond, not, ◌&&◌, false≢true, true≢false}
use mathlib.Core.List.{List, [], ◌∷◌, ◌++◌, map, map-append}
use mathlib.Core.Logic.{inl, inr}
use Prim.Native.Nat.{ℕ}
use Prim.Native.Char.{code}
use borrow.Author.Tests.{eqb-true, not-true}
use lib.Dec.{eqb}
use lib.ListN.{length, length-map, get_or-map}
use Rattle.std.proofs.lemmas.Bool.{and_parts}
use Rattle.text.specs.Class.{is_digit, is_separator, small}
use Rattle.text.specs.Scan.{byte_at}
use Rattle.text.specs.Word.{bytes, begins, begins_by}
use Rattle.version_language.proofs.Bytes.{Apart, lettered, listed}
use Rattle.version_language.proofs.Parts.{pre_word, post_word, dev_word}
use Rattle.version_language.specs.Appendix.{Regex, matches}
use Rattle.version_parts.specs.Part.{says, word_len, pre_words, post_words, dev_words}

-- the same search in a text whose letters are small
word_in : List (List ℕ) → List ℕ → ℕ
word_in [] z = 0
word_in (w ∷ ws) z = cond (begins w z) (length w) (word_in ws z)

says_begins : (w s : List ℕ) → says w s ≡ begins w (map small s)
unfolding begins_by
says_begins [] s = refl
says_begins (c ∷ w) [] = refl
says_begins (c ∷ w) (b ∷ s) = ap (λ (t : Bool). eqb (small b) c && t) (says_begins w s)

word_in_lem : (ws : List (List ℕ)) (s : List ℕ) → word_len ws s ≡ word_in ws (map small s)
unfolding word_len word_in
word_in_lem [] s = refl
word_in_lem (w ∷ ws) s = rw (says_begins w s, word_in_lem ws s)

-- the bytes that would make one word of a list into another: `alpha`, `beta`, `rev`, `preview`, `rc`
abbrev pub goes_on : ℕ → Bool
goes_on a = listed (bytes "levc") a

unlisted : (L : List ℕ) (b c : ℕ) → listed L c ≡ true → listed L b ≡ false → eqb b c ≡ false
unlisted L b c h out = go (eqb b c) refl
  where
    go : (t : Bool) → eqb b c ≡ t → eqb b c ≡ false
    go true e = absurd (true≢false (sym (rw (eqb-true b c e) h) ∙ out))
    go false e = e

module _ (w y : List ℕ) (stop : goes_on (small (byte_at y 0)) ≡ false) where
  -- a rest that such a byte does not begin
  ends : (c : ℕ) → goes_on c ≡ true → begins (c ∷ w) (map small y) ≡ false
  unfolding begins_by
  ends c h = go y stop
    where
      go : (y : List ℕ) → goes_on (small (byte_at y 0)) ≡ false → begins (c ∷ w) (map small y) ≡ false
      go [] stop = refl
      go (b ∷ y) stop = rw (unlisted (bytes "levc") (small b) c h stop)

module _ (t w : List ℕ) (this : map small t ≡ w) where
  first_letter : small (byte_at t 0) ≡ byte_at w 0
  first_letter = sym (get_or-map small t 0 0) ∙ ap (λ (l : List ℕ). byte_at l 0) this

  found : (ws : List (List ℕ)) (y : List ℕ) (n : ℕ) → word_in ws (w ++ map small y) ≡ n → word_len ws (t ++ y) ≡ n
  found ws y n h = rw (word_in_lem ws (t ++ y), map-append, this) h

  found_whole : (ws : List (List ℕ)) (y : List ℕ) → word_in ws (w ++ map small y) ≡ length w → word_len ws (t ++ y) ≡ length t
  found_whole ws y h = rw (found ws y (length w) h, ← this) (length-map t small)

-- before a rest that does not go on with it, each word is found whole
module _ (y : List ℕ) (stop : goes_on (small (byte_at y 0)) ≡ false) where
  pub pre_whole : (t : List ℕ) → matches pre_word t → word_len pre_words (t ++ y) ≡ length t
  unfolding word_in begins_by
  pre_whole t (inl m) = found_whole t _ m pre_words y (rw (ends (bytes "pha") y stop (code "l") refl))
  pre_whole t (inr (inl m)) = found_whole t _ m pre_words y (rw (ends (bytes "ta") y stop (code "e") refl))
  pre_whole t (inr (inr (inl m))) = found_whole t _ m pre_words y refl
  pre_whole t (inr (inr (inr (inl m)))) = found_whole t _ m pre_words y refl
  pre_whole t (inr (inr (inr (inr (inl m))))) = found_whole t _ m pre_words y refl
  pre_whole t (inr (inr (inr (inr (inr (inl m)))))) = found_whole t _ m pre_words y refl
  pre_whole t (inr (inr (inr (inr (inr (inr (inl m))))))) = found_whole t _ m pre_words y (rw (ends (bytes "iew") y stop (code "v") refl))
  pre_whole t (inr (inr (inr (inr (inr (inr (inr m))))))) = found_whole t _ m pre_words y refl

  pub post_whole : (t : List ℕ) → matches post_word t → word_len post_words (t ++ y) ≡ length t
  unfolding word_in begins_by
  post_whole t (inl m) = found_whole t _ m post_words y refl
  post_whole t (inr (inl m)) = found_whole t _ m post_words y refl
  post_whole t (inr (inr m)) = found_whole t _ m post_words y (rw (ends (bytes "v") y stop (code "e") refl))

  pub dev_whole : (t : List ℕ) → matches dev_word t → word_len dev_words (t ++ y) ≡ length t
  unfolding word_in begins_by
  dev_whole t m = found_whole t _ m dev_words y refl

  -- and a post part's word is none of a pre part's
  pub post_no_pre : (t : List ℕ) → matches post_word t → word_len pre_words (t ++ y) ≡ 0
  unfolding word_in begins_by
  post_no_pre t (inl m) = found t _ m pre_words y 0 refl
  post_no_pre t (inr (inl m)) = found t _ m pre_words y 0 refl
  post_no_pre t (inr (inr m)) = found t _ m pre_words y 0 (rw (ends [] y stop (code "c") refl))

-- How a word begins: with a letter of F, and that is no separator and no digit.
pub record Begins (X : Regex) (F : List ℕ) : Type 0 where
  pub heads : (t : List ℕ) → matches X t → lettered F (byte_at t 0) ≡ true
  pub full : listed F 0 ≡ false
  pub no_sep : Apart is_separator (lettered F)
  pub no_digit : Apart is_digit (lettered F)

pre_heads : (t : List ℕ) → matches pre_word t → lettered (bytes "abcpr") (byte_at t 0) ≡ true
pre_heads t (inl m) = rw (first_letter t _ m)
pre_heads t (inr (inl m)) = rw (first_letter t _ m)
pre_heads t (inr (inr (inl m))) = rw (first_letter t _ m)
pre_heads t (inr (inr (inr (inl m)))) = rw (first_letter t _ m)
pre_heads t (inr (inr (inr (inr (inl m))))) = rw (first_letter t _ m)
pre_heads t (inr (inr (inr (inr (inr (inl m)))))) = rw (first_letter t _ m)
pre_heads t (inr (inr (inr (inr (inr (inr (inl m))))))) = rw (first_letter t _ m)
pre_heads t (inr (inr (inr (inr (inr (inr (inr m))))))) = rw (first_letter t _ m)

post_heads : (t : List ℕ) → matches post_word t → lettered (bytes "pr") (byte_at t 0) ≡ true
post_heads t (inl m) = rw (first_letter t _ m)
post_heads t (inr (inl m)) = rw (first_letter t _ m)
post_heads t (inr (inr m)) = rw (first_letter t _ m)

pub pre_begins : Begins pre_word (bytes "abcpr")
pre_begins = record { heads = pre_heads; full = refl; no_sep = refl; no_digit = refl }

pub post_begins : Begins post_word (bytes "pr")
post_begins = record { heads = post_heads; full = refl; no_sep = refl; no_digit = refl }

pub dev_begins : Begins dev_word (bytes "d")
dev_begins = record { heads = λ t m. rw (first_letter t _ m); full = refl; no_sep = refl; no_digit = refl }

-- no word is found where none begins so
abbrev pub clear : List (List ℕ) → ℕ → Bool
clear [] a = true
clear ([] ∷ ws) a = false
clear ((c ∷ w) ∷ ws) a = not (eqb a c) && clear ws a

pub no_words : (ws : List (List ℕ)) (s : List ℕ) → clear ws (small (byte_at s 0)) ≡ true → word_len ws s ≡ 0
unfolding word_len begins_by
no_words [] s h = refl
no_words ([] ∷ ws) s h = absurd (false≢true h)
no_words ((c ∷ w) ∷ ws) s h =
    let (first, rest) = and_parts (not (eqb (small (byte_at s 0)) c)) (clear ws (small (byte_at s 0))) h in
    rw (silent s (not-true (eqb (small (byte_at s 0)) c) first), no_words ws s rest)
  where
    silent : (s : List ℕ) → eqb (small (byte_at s 0)) c ≡ false → says (c ∷ w) s ≡ false
    silent [] h = refl
    silent (b ∷ s) h = rw h
