-- A part takes all that it can and never gives back, and yet loses no text: whatever way the expression cuts a text, what the reading leaves is
-- a text of what may follow. Assumes nothing.
use mathlib.Core.Path.{◌≡◌, refl, ◌∙◌}
use mathlib.Core.Bool.{Bool, true, false, cond, ◌&&◌}
use mathlib.Core.List.{List, ◌∷◌, ◌++◌}
use mathlib.Core.Logic.{◌⊎◌, inl, inr}
use Prim.Native.Nat.{ℕ, ◌+◌, ◌<◌}
use Prim.Native.Char.{code}
use native.Mathlib.Nat.{zero-add}
use native.Mathlib.Omega.{arith}
use borrow.Author.Tests.{lt-ltb, eqb-true}
use lib.Dec.{ltb, eqb}
use lib.ListN.{length, drop, length-append}
use lib.Seq.{drop_at}
use Rattle.text.specs.Class.{is_digit, is_separator, small}
use Rattle.text.specs.Scan.{byte_at}
use Rattle.text.specs.Word.{bytes}
use Rattle.version_language.proofs.Bytes.{Apart, lettered, listed, separator_ascii, apart}
use Rattle.version_language.proofs.Front.{letter, letter_no_number, labelled_letter, post_letter, devs, Labelled, plain, behind, unlabel, word_there, no_separator, Follows, dev_follows, post_follows, pre_follows, post_quiet, counted_quiet, no_dev, no_post, no_pre}
use Rattle.version_language.proofs.Parts.{pre_word, post_word, dev_word, after_dev, after_post, after_pre, after_release, counted, there_or_not, Cut, cut_none, cut_seam, cut_cut}
use Rattle.version_language.proofs.Whole.{number_whole, number_first, number_there, number_none}
use Rattle.version_language.proofs.Words.{goes_on, pre_whole, post_whole, dev_whole, Begins, pre_begins, post_begins, dev_begins}
use Rattle.version_language.specs.Appendix.{Regex, matches, opt, ◌then◌, number, pre, post, dev}
use Rattle.version_number.specs.Number.{number_len}
use Rattle.version_parts.specs.Part.{sep_len, word_len, count_len, part_len, pre_words, post_words, dev_words, pre_len, post_len, dev_len}

count_plain : (v : List ℕ) → is_separator (byte_at v 0) ≡ false → count_len v ≡ number_len v
count_plain v h = rw h (zero-add (number_len v))

part_len_lem : (words : List (List ℕ)) (v : List ℕ) (k n : ℕ) → sep_len v ≡ k → word_len words (drop k v) ≡ n → 0 < n → part_len words v ≡ k + n + count_len (drop (k + n) v)
unfolding part_len
part_len_lem words v k n sep word there = rw (sep, word, lt-ltb 0 n there)

part_none : (words : List (List ℕ)) (v : List ℕ) → word_len words (drop (sep_len v) v) ≡ 0 → part_len words v ≡ 0
unfolding part_len
part_none words v h = rw h

module _ {K : Regex} (rest : Follows K) where
  stops : (w : List ℕ) → matches K w → is_digit (byte_at w 0) ≡ false
  stops w k = (rest.quiet w k).0

  -- `([0-9]+)?`
  number_cut : (v : List ℕ) → matches (opt number then K) v → Cut (number_len v) K v
  number_cut v (u, w, e, inl none, k) = rw (e, none) (cut_none (number_len w) K w (number_none w (stops w k)) k)
  number_cut v (u, w, e, inr num, k) = rw e (cut_seam (number_len (u ++ w)) K u w (number_whole u num w (stops w k)) k)

  -- `[-_\.]?([0-9]+)?`: the separator may be one that the expression gives to what follows
  count_cut : (v : List ℕ) → matches (counted K) v → Cut (count_len v) K v
  count_cut v (c, z, e, inr (b, this, h), m) = rw (e, this, h) (cut_cut 1 (number_len z) K (b ∷ z) (omega arith) (number_cut z m))
  count_cut v (c, z, e, inl none, (n, w, f, inr num, k)) =
      let no_sep : is_separator (byte_at (n ++ w) 0) ≡ false = apart is_separator is_digit separator_ascii refl (byte_at (n ++ w) 0) (number_first n num w) in
      rw (e, none, f) (cut_seam (count_len (n ++ w)) K n w (count_plain (n ++ w) no_sep ∙ number_whole n num w (stops w k)) k)
  count_cut v (c, z, e, inl none, (n, w, f, inl empty, k)) = rw (e, none, f, empty) (go (is_separator (byte_at w 0)) refl)
    where
      go : (t : Bool) → is_separator (byte_at w 0) ≡ t → Cut (count_len w) K w
      go true h = rw h (rest.again w k h)
      go false h = cut_none (count_len w) K w (count_plain w h ∙ number_none w (stops w k)) k

  -- a part with a word
  module _ (words : List (List ℕ)) where
    part_cut : (p y : List ℕ) (k n : ℕ) → length p ≡ k + n → sep_len (p ++ y) ≡ k → word_len words (drop k (p ++ y)) ≡ n → 0 < n → matches (counted K) y → Cut (part_len words (p ++ y)) K (p ++ y)
    part_cut p y k n size sep word there c =
        rw (part_len_lem words (p ++ y) k n sep word there)
        (cut_cut (k + n) (count_len (drop (k + n) (p ++ y))) K (p ++ y) (omega (arith, length-append p y)) (count_cut (drop (k + n) (p ++ y)) (rw (drop_at p y (k + n) size) c)))

    module _ {X : Regex} {F : List ℕ} (begun : Begins X F) (whole : (y : List ℕ) → goes_on (small (byte_at y 0)) ≡ false → (t : List ℕ) → matches X t → word_len words (t ++ y) ≡ length t) where
      labelled_cut : (v : List ℕ) → Labelled X K v → Cut (part_len words v) K v
      labelled_cut v (plain t y e x c) =
          rw e (part_cut t y 0 (length t) (omega arith) (rw (no_separator begun t y x)) (whole y (counted_quiet K rest.quiet y c) t x) (word_there begun t x) c)
      labelled_cut v (behind b t y h e x c) =
          rw e (part_cut (b ∷ t) y 1 (length t) (omega arith) (rw h) (whole y (counted_quiet K rest.quiet y c) t x) (word_there begun t x) c)

pub dev_cut : (v : List ℕ) → matches after_post v → Cut (dev_len v) after_dev v
dev_cut v m = go (there_or_not dev after_dev v m)
  where
    go : matches after_dev v ⊎ matches (dev then after_dev) v → Cut (dev_len v) after_dev v
    go (inl k) = cut_none (dev_len v) after_dev v (part_none dev_words v (no_dev v k)) k
    go (inr m) = labelled_cut dev_follows dev_words dev_begins dev_whole v (unlabel dev_word after_dev v m)

pub pre_cut : (v : List ℕ) → matches after_release v → Cut (pre_len v) after_pre v
pre_cut v m = go (there_or_not pre after_pre v m)
  where
    go : matches after_pre v ⊎ matches (pre then after_pre) v → Cut (pre_len v) after_pre v
    go (inl k) = cut_none (pre_len v) after_pre v (part_none pre_words v (no_pre v k)) k
    go (inr m) = labelled_cut pre_follows pre_words pre_begins pre_whole v (unlabel pre_word after_pre v m)

-- `-` and a number is tried first, and a word's separator is followed by no number
post_by_dash : (b : ℕ) (n w : List ℕ) → eqb b (code "-") ≡ true → number_len (n ++ w) ≡ length n → 0 < length n → post_len (b ∷ n ++ w) ≡ 1 + length n
unfolding post_len
post_by_dash b n w h whole there = rw (h, whole, lt-ltb 0 (length n) there)

post_by_word : (F : List ℕ) → Apart is_digit (lettered F) → (v : List ℕ) → listed F (letter v) ≡ true → post_len v ≡ part_len post_words v
unfolding post_len
post_by_word F tried v h = go (eqb (byte_at v 0) (code "-")) refl
  where
    go : (t : Bool) → eqb (byte_at v 0) (code "-") ≡ t → cond (t && ltb 0 (number_len (drop 1 v))) (1 + number_len (drop 1 v)) (part_len post_words v) ≡ part_len post_words v
    go true e = rw (letter_no_number F tried v h (rw (eqb-true (byte_at v 0) (code "-") e)))
    go false e = refl

pub post_cut : (v : List ℕ) → matches after_pre v → Cut (post_len v) after_post v
post_cut v m = go (there_or_not post after_post v m)
  where
    word : Labelled post_word after_post v → Cut (post_len v) after_post v
    word l =
        rw (post_by_word (bytes "pr") refl v (labelled_letter post_begins after_post v l))
        (labelled_cut post_follows post_words post_begins post_whole v l)

    go : matches after_post v ⊎ matches (post then after_post) v → Cut (post_len v) after_post v
    go (inl k) = cut_none (post_len v) after_post v (post_by_word devs refl v (post_letter v k) ∙ part_none post_words v (no_post v k)) k
    go (inr (u, w, e, inl (a, n, f, (b, g, h), num), k)) =
        rw (e, f, g, post_by_dash b n w h (number_whole n num w (post_quiet w k).0) (number_there n num)) (cut_seam (1 + length n) after_post (b ∷ n) w (omega arith) k)
    go (inr (u, w, e, inr m, k)) = word (unlabel post_word after_post v (u, w, e, m, k))
