-- What the reading accepts, the expression matches: each part that it takes is a text of the part's expression. Assumes nothing.
use mathlib.Core.Path.{◌≡◌, refl, sym}
use mathlib.Core.Bool.{Bool, true, false, cond, not, ◌&&◌, ◌||◌, or-true, false≢true}
use mathlib.Core.List.{List, [], ◌∷◌, ◌++◌, map}
use mathlib.Core.Logic.{inl, inr}
use Prim.Native.Nat.{ℕ, zero, suc, ◌+◌, ◌<◌, ◌≤◌}
use Prim.Native.Char.{code}
use native.Mathlib.Nat.{add_assoc, add-zero}
use native.Mathlib.Omega.{arith}
use borrow.Author.Tests.{ltb-true, lt-ltb, eqb-true}
use lib.Dec.{ltb, eqb}
use lib.ListN.{length, take, drop, length-drop, take-append-drop}
use lib.Seq.{take-add, drop-drop, get_or-drop, length-take-le, take_all}
use Rattle.std.proofs.lemmas.Bool.{and_parts}
use Rattle.text.proofs.Reach.{run_le}
use Rattle.text.proofs.Words.{begins_word}
use Rattle.text.specs.Class.{is_space, is_digit, is_alnum, is_letter, is_separator, small}
use Rattle.text.specs.Scan.{run, skip, byte_at}
use Rattle.text.specs.Word.{bytes, begins, begins_by}
use Rattle.version_language.proofs.Matching.{joined, joined_front, perhaps, one_front, opt_one_front, run_all, value_run, all_run, all_of, every}
use Rattle.version_language.proofs.Parts.{labelled, pre_word, post_word, dev_word, local, after_dev, after_release, starred, from_first, from_epoch, from_start, from_v, begun, released}
use Rattle.version_language.specs.Appendix.{Regex, none, some, matches, all, one, word, opt, many, ◌then◌, sign, spaces, separator, number, segment, bounded, pre, post, dev, version_regex, pattern_regex}
use Rattle.version_parts.specs.Joined.{more_len, more}
use Rattle.version_parts.specs.Local.{segment_len, local_len}
use Rattle.version_number.specs.Place.{past}
use Rattle.version_parts.specs.Release.{v_len, epoch_len, is_dot}
use Rattle.version.specs.Layout.{layout, ends_at, has_release, is_version_at, is_starred_at}
use Rattle.version_number.specs.Number.{number_len}
use Rattle.version_parts.specs.Part.{says, word_len, sep_len, count_len, part_len, pre_words, post_words, dev_words, pre_len, post_len, dev_len}
use Rattle.version.specs.Rules.{is_version, is_pattern}

taken : (s : List ℕ) (n : ℕ) → n ≤ length s → 0 < n → ltb 0 (length (take n s)) ≡ true
taken s n room there = rw (length-take-le n s room) (lt-ltb 0 n there)

-- numbers
pub number_front : (s : List ℕ) → 0 < number_len s → matches number (take (number_len s) s)
unfolding number_len
number_front s there = go (bounded s) refl there
  where
    go : (t : Bool) → bounded s ≡ t → 0 < cond t (run is_digit s) 0 → matches number (take (cond t (run is_digit s) 0) s)
    go true e h =
        let n = run is_digit s in
        every _ _ _ (taken s n (run_le is_digit s) h) (run_all is_digit s) (rw (value_run 0 s) e)
    go false e h = absurd (omega arith)

opt_number_front : (s : List ℕ) → matches (opt number) (take (number_len s) s)
opt_number_front s = perhaps number s (number_len s) (number_front s)

-- `[-_\.]?([0-9]+)?`
count_front : (s : List ℕ) → matches (opt separator then opt number) (take (count_len s) s)
count_front s =
    joined_front (opt separator) (opt number) s (sep_len s) (number_len (drop (sep_len s) s)) (opt_one_front is_separator refl s)
    (opt_number_front (drop (sep_len s) s))

-- words
says_front : (w s : List ℕ) → says w s ≡ true → map small (take (length w) s) ≡ w
unfolding begins_by
says_front [] s h = refl
says_front (c ∷ w) [] h = absurd (false≢true h)
says_front (c ∷ w) (b ∷ s) h =
    let (first, rest) = and_parts (eqb (small b) c) (says w s) h in
    λ i. eqb-true (small b) c first i ∷ says_front w s rest i

-- the word that is found is one of the list
module _ (X : Regex) (s : List ℕ) where
  no_word : 0 < word_len [] s → matches X (take (word_len [] s) s)
  unfolding word_len
  no_word h = absurd (omega arith)

  this_word : (w : List ℕ) (ws : List (List ℕ)) → (map small (take (length w) s) ≡ w → matches X (take (length w) s)) → (0 < word_len ws s → matches X (take (word_len ws s) s)) → 0 < word_len (w ∷ ws) s → matches X (take (word_len (w ∷ ws) s) s)
  unfolding word_len
  this_word w ws this others h = go (says w s) refl h
    where
      go : (t : Bool) → says w s ≡ t → 0 < cond t (length w) (word_len ws s) → matches X (take (cond t (length w) (word_len ws s)) s)
      go true e h = this (says_front w s e)
      go false e h = others h

-- a part with a word
module _ (X : Regex) (words : List (List ℕ)) (found : (s : List ℕ) → 0 < word_len words s → matches X (take (word_len words s) s)) where
  pub part_front : (s : List ℕ) → 0 < part_len words s → matches (labelled X) (take (part_len words s) s)
  unfolding part_len
  part_front s there = go (ltb 0 w) refl there
    where
      k : ℕ
      k = sep_len s

      w : ℕ
      w = word_len words (drop k s)

      c : ℕ
      c = count_len (drop (k + w) s)

      go : (t : Bool) → ltb 0 w ≡ t → 0 < cond t (k + w + c) 0 → matches (labelled X) (take (cond t (k + w + c) 0) s)
      go true e h =
          rw (add_assoc k w c) (joined_front (opt separator) (X then opt separator then opt number) s k (w + c) (opt_one_front is_separator refl s)
          (joined_front X (opt separator then opt number) (drop k s) w c (found (drop k s) (ltb-true 0 w e)) (rw (drop-drop w k s) (count_front (drop (k + w) s)))))
      go false e h = absurd (omega arith)

-- the three lists of words
pub pre_word_lem : (s : List ℕ) → 0 < word_len pre_words s → matches pre_word (take (word_len pre_words s) s)
pre_word_lem s =
    this_word pre_word s (bytes "alpha") _ (λ m. inr (inr (inr (inr (inl m)))))
    (this_word pre_word s (bytes "a") _ (λ m. inl m)
    (this_word pre_word s (bytes "beta") _ (λ m. inr (inr (inr (inr (inr (inl m))))))
    (this_word pre_word s (bytes "b") _ (λ m. inr (inl m))
    (this_word pre_word s (bytes "c") _ (λ m. inr (inr (inl m)))
    (this_word pre_word s (bytes "rc") _ (λ m. inr (inr (inr (inl m))))
    (this_word pre_word s (bytes "preview") _ (λ m. inr (inr (inr (inr (inr (inr (inr m)))))))
    (this_word pre_word s (bytes "pre") _ (λ m. inr (inr (inr (inr (inr (inr (inl m))))))) (no_word pre_word s))))))))

post_word_lem : (s : List ℕ) → 0 < word_len post_words s → matches post_word (take (word_len post_words s) s)
post_word_lem s =
    this_word post_word s (bytes "post") _ (λ m. inl m)
    (this_word post_word s (bytes "rev") _ (λ m. inr (inl m)) (this_word post_word s (bytes "r") _ (λ m. inr (inr m)) (no_word post_word s)))

pub dev_word_lem : (s : List ℕ) → 0 < word_len dev_words s → matches dev_word (take (word_len dev_words s) s)
dev_word_lem s = this_word dev_word s (bytes "dev") _ (λ m. m) (no_word dev_word s)

-- `-` and a number, or the word
pub post_front : (s : List ℕ) → 0 < post_len s → matches post (take (post_len s) s)
unfolding post_len
post_front s there = go (eqb (byte_at s 0) (code "-") && ltb 0 n) refl there
  where
    n : ℕ
    n = number_len (drop 1 s)

    go : (t : Bool) → (eqb (byte_at s 0) (code "-") && ltb 0 n) ≡ t → 0 < cond t (1 + n) (part_len post_words s) → matches post (take (cond t (1 + n) (part_len post_words s)) s)
    go true e h =
        let (first, rest) = and_parts (eqb (byte_at s 0) (code "-")) (ltb 0 n) e in
        inl (joined_front (sign "-") number s 1 n (one_front (λ b. eqb b (code "-")) refl s first) (number_front (drop 1 s) (ltb-true 0 n rest)))
    go false e h = inr (part_front post_word post_words post_word_lem s h)

-- each of the three may be missing
pub opt_pre_front : (s : List ℕ) → matches (opt pre) (take (pre_len s) s)
opt_pre_front s = perhaps pre s (pre_len s) (part_front pre_word pre_words pre_word_lem s)

pub opt_post_front : (s : List ℕ) → matches (opt post) (take (post_len s) s)
opt_post_front s = perhaps post s (post_len s) (post_front s)

pub opt_dev_front : (s : List ℕ) → matches (opt dev) (take (dev_len s) s)
opt_dev_front s = perhaps dev s (dev_len s) (part_front dev_word dev_words dev_word_lem s)

-- items behind joining bytes
module _ (joins : ℕ → Bool) (end : joins 0 ≡ false) (r : Regex) (item : List ℕ → ℕ) (there : (s : List ℕ) → 0 < item s → matches r (take (item s) s)) where
  pub more_front : (k : ℕ) (s : List ℕ) → matches (many (one joins then r)) (take (more_len joins item k s) s)
  unfolding more_len
  more_front zero s = none
  more_front (suc k) s = go (joins (byte_at s 0) && ltb 0 n) refl (more_front k (drop (1 + n) s))
    where
      n : ℕ
      n = item (drop 1 s)

      m : ℕ
      m = more_len joins item k (drop (1 + n) s)

      go : (t : Bool) → (joins (byte_at s 0) && ltb 0 n) ≡ t → matches (many (one joins then r)) (take m (drop (1 + n) s)) → matches (many (one joins then r)) (take (cond t (1 + n + m) 0) s)
      go true e rest =
          let (first, next) = and_parts (joins (byte_at s 0)) (ltb 0 n) e in
          some (take (1 + n) s) (take m (drop (1 + n) s)) (take-add (1 + n) m s)
          (joined_front (one joins) r s 1 n (one_front joins end s first) (there (drop 1 s) (ltb-true 0 n next))) rest
      go false e rest = none

-- `[a-z0-9]+`
segment_front : (s : List ℕ) → 0 < segment_len s → matches segment (take (segment_len s) s)
unfolding segment_len
segment_front s there = go (ltb (run is_digit s) (run is_alnum s)) refl there
  where
    n : ℕ
    n = run is_alnum s

    go : (t : Bool) → ltb (run is_digit s) n ≡ t → 0 < cond t n (number_len s) → matches segment (take (cond t n (number_len s)) s)
    go true e h =
        every _ _ _ (taken s n (run_le is_alnum s) h) (run_all is_alnum s) (lettered (all is_digit (take n s)) refl)
      where
        lettered : (t : Bool) → all is_digit (take n s) ≡ t → (not t || bounded (take n s)) ≡ true
        lettered true digits = absurd (omega (arith, ltb-true (run is_digit s) n e, all_run is_digit s n (run_le is_alnum s) digits))
        lettered false digits = refl
    go false e h =
        let (front, small-enough) = and_parts (ltb 0 (length u) && all is_digit u) (bounded u) (number_front s h) in
        let (there, digits) = and_parts (ltb 0 (length u)) (all is_digit u) front in
        every _ _ _ there (all_of is_digit is_alnum (λ b d. rw d (or-true (is_letter b))) u digits) (rw digits small-enough)
      where
        u : List ℕ
        u = take (number_len s) s

-- `(?:\+([a-z0-9]+(?:[-_\.][a-z0-9]+)*))?`
pub local_front : (s : List ℕ) → 0 < local_len s → matches local (take (local_len s) s)
unfolding local_len more
local_front s there = go (eqb (byte_at s 0) (code "+") && ltb 0 n) refl there
  where
    n : ℕ
    n = segment_len (drop 1 s)

    m : ℕ
    m = more is_separator segment_len (drop (1 + n) s)

    go : (t : Bool) → (eqb (byte_at s 0) (code "+") && ltb 0 n) ≡ t → 0 < cond t (1 + n + m) 0 → matches local (take (cond t (1 + n + m) 0) s)
    go true e h =
        let (first, next) = and_parts (eqb (byte_at s 0) (code "+")) (ltb 0 n) e in
        rw (add_assoc 1 n m) (joined_front (sign "+") (segment then many (separator then segment)) s 1 (n + m) (one_front (λ b. eqb b (code "+")) refl s first)
        (joined_front segment (many (separator then segment)) (drop 1 s) n m (segment_front (drop 1 s) (ltb-true 0 n next))
        (rw (drop-drop n 1 s) (more_front is_separator refl segment segment_len segment_front (length (drop (1 + n) s)) (drop (1 + n) s)))))
    go false e h = absurd (omega arith)

pub opt_local_front : (s : List ℕ) → matches (opt local) (take (local_len s) s)
opt_local_front s = perhaps local s (local_len s) (local_front s)

-- `v?` and `(?:([0-9]+)!)?`
pub v_front : (s : List ℕ) → matches (opt (word "v")) (take (v_len s) s)
v_front s = go (eqb (small (byte_at s 0)) (code "v")) refl
  where
    go : (t : Bool) → eqb (small (byte_at s 0)) (code "v") ≡ t → matches (opt (word "v")) (take (cond t 1 0) s)
    go true e =
        let (b, this, v) = one_front (λ b. eqb (small b) (code "v")) refl s e in
        inr (rw (this, eqb-true (small b) (code "v") v))
    go false e = inl refl

pub epoch_front : (s : List ℕ) → matches (opt (number then sign "!")) (take (epoch_len s) s)
unfolding epoch_len
epoch_front s = go (ltb 0 n && eqb (byte_at s n) (code "!")) refl
  where
    n : ℕ
    n = number_len s

    go : (t : Bool) → (ltb 0 n && eqb (byte_at s n) (code "!")) ≡ t → matches (opt (number then sign "!")) (take (cond t (n + 1) 0) s)
    go true e =
        let (first, next) = and_parts (ltb 0 n) (eqb (byte_at s n) (code "!")) e in
        inr (joined_front number (sign "!") s n 1 (number_front s (ltb-true 0 n first)) (one_front (λ b. eqb b (code "!")) refl (drop n s) (rw (get_or-drop, add-zero) next)))
    go false e = inl refl

-- A chain over places: at each the part in front is taken.
module _ (s : List ℕ) (at : ℕ) where
  taking : (len : List ℕ → ℕ) (r q : Regex) → matches r (take (len (drop at s)) (drop at s)) → matches q (drop (past len s at) s) → matches (r then q) (drop at s)
  taking len r q this next = joined r q (drop at s) (len (drop at s)) this (rw (drop-drop (len (drop at s)) at s) next)

  pub ending : ends_at s at ≡ true → matches spaces (drop at s)
  unfolding skip
  ending h =
      let whole : length (drop at s) ≤ run is_space (drop at s) = omega (arith, eqb-true (at + run is_space (drop at s)) (length s) h, length-drop at s) in
      rw take_all at (run_all is_space (drop at s))

-- from the release's end on, K being what follows the dev part
pub parts_matches : (K : Regex) (s : List ℕ) (at : ℕ) → matches K (drop (past dev_len s (past post_len s (past pre_len s at))) s) → matches (opt pre then opt post then opt dev then K) (drop at s)
parts_matches K s at k =
    taking s at pre_len (opt pre) (opt post then opt dev then K) (opt_pre_front (drop at s))
    (taking s (past pre_len s at) post_len (opt post) (opt dev then K) (opt_post_front (drop (past pre_len s at) s))
    (taking s (past post_len s (past pre_len s at)) dev_len (opt dev) K (opt_dev_front (drop (past post_len s (past pre_len s at)) s)) k))

pub ends_matches : (s : List ℕ) (at : ℕ) → ends_at s (past local_len s (past dev_len s (past post_len s (past pre_len s at)))) ≡ true → matches after_release (drop at s)
ends_matches s at h =
    let dev = past dev_len s (past post_len s (past pre_len s at)) in
    parts_matches after_dev s at (taking s dev local_len (opt local) spaces (opt_local_front (drop dev s)) (ending s (past local_len s dev) h))

-- up to the first number's end, and to the release's
pub begun_matches : (L : Regex) (s : List ℕ) → has_release (layout s) ≡ true → matches L (drop (layout s).first s) → matches (begun L) s
unfolding layout skip
begun_matches L s there rest =
    taking s 0 (run is_space) spaces (from_v L) (run_all is_space s)
    (taking s (skip is_space s 0) v_len (opt (word "v")) (from_start L) (v_front (drop (skip is_space s 0) s))
    (taking s (layout s).start epoch_len (opt (number then sign "!")) (from_epoch L) (epoch_front (drop (layout s).start s))
    (taking s (layout s).epoch number_len number L (number_front (drop (layout s).epoch s) (omega (arith, ltb-true (layout s).epoch (layout s).first there))) rest)))

pub others_front : (s : List ℕ) → matches (many (sign "." then number)) (take (more is_dot number_len s) s)
unfolding more
others_front s = more_front is_dot refl number number_len number_front (length s) s

pub released_matches : (K : Regex) (s : List ℕ) → has_release (layout s) ≡ true → matches K (drop (layout s).release s) → matches (released K) s
unfolding layout
released_matches K s there rest =
    begun_matches (from_first K) s there (taking s (layout s).first (more is_dot number_len) (many (sign "." then number)) K (others_front (drop (layout s).first s)) rest)

-- or its star
star_matches : (s : List ℕ) (at : ℕ) → begins (bytes ".*") (drop at s) ≡ true → ends_at s (at + 2) ≡ true → matches starred (drop at s)
star_matches s at star end =
    let this : take 2 (drop at s) ≡ bytes ".*" = begins_word (bytes ".*") (drop at s) star in
    (bytes ".", bytes "*" ++ drop (at + 2) s, sym (rw (this, drop-drop) at (take-append-drop 2 (drop at s))), (code ".", refl, refl), (bytes "*", drop (at + 2) s, refl, (code "*", refl, refl), ending s (at + 2) end))

-- what is read as a version, the expression matches
pub accepted_matches : (s : List ℕ) → is_version s ≡ true → matches version_regex s
unfolding is_version layout
accepted_matches s h =
    let (there, end) = and_parts (has_release (layout s)) (ends_at s (layout s).local) h in
    released_matches after_release s there (ends_matches s (layout s).release end)

-- and what is read with a star, its expression
pub star_taken : (s : List ℕ) → is_starred_at (layout s) s ≡ true → matches (released starred) s
star_taken s h =
    let (front, end) = and_parts (has_release (layout s) && begins (bytes ".*") (drop (layout s).release s)) (ends_at s ((layout s).release + 2)) h in
    let (there, star) = and_parts (has_release (layout s)) (begins (bytes ".*") (drop (layout s).release s)) front in
    released_matches starred s there (star_matches s (layout s).release star end)

-- what is read as a pattern, the pattern's expression matches
pub pattern_accepted_matches : (s : List ℕ) → is_pattern s ≡ true → matches pattern_regex s
unfolding is_pattern is_version
pattern_accepted_matches s h = go (is_version_at (layout s) s) refl h
  where
    go : (t : Bool) → is_version_at (layout s) s ≡ t → (t || is_starred_at (layout s) s) ≡ true → matches pattern_regex s
    go true e h = inl (accepted_matches s e)
    go false e h = inr (star_taken s h)
