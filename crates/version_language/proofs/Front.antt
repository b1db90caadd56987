-- How what may follow a part begins. Assumes nothing.
use mathlib.Core.Path.{◌≡◌, refl, sym, ap, ◌∙◌}
use mathlib.Core.Bool.{Bool, true, false, cond, not, or-true, false≢true, true≢false}
use mathlib.Core.List.{List, [], ◌∷◌, ◌++◌, append_assoc}
use mathlib.Core.Logic.{◌⊎◌, inl, inr}
use Prim.Native.Nat.{ℕ, ◌+◌, ◌<◌}
use Prim.Native.Char.{code}
use native.Mathlib.Omega.{arith}
use borrow.Author.Tests.{eqb-true, not-true}
use lib.ListN.{length, drop}
use Rattle.std.proofs.lemmas.Bool.{and_parts}
use Rattle.text.specs.Class.{is_space, is_digit, is_separator, small}
use Rattle.text.specs.Scan.{byte_at}
use Rattle.text.specs.Word.{bytes}
use Rattle.version_language.proofs.Bytes.{Apart, lettered, Ascii, listed, among, digit_ascii, space_ascii, separator_ascii, inside, apart}
use Rattle.version_language.proofs.Parts.{labelled, pre_word, post_word, dev_word, local, after_dev, after_post, after_pre, after_release, counted, there_or_not, without, with_it, Cut, cut_seam}
use Rattle.version_language.proofs.Whole.{number_whole, number_first, number_none}
use Rattle.version_language.proofs.Words.{goes_on, clear, no_words, post_no_pre, Begins, pre_begins, post_begins, dev_begins}
use Rattle.version_language.specs.Appendix.{Regex, matches, all, ◌then◌, spaces, post, dev}
use Rattle.version_parts.specs.Release.{is_dot}
use Rattle.version_number.specs.Number.{number_len}
use Rattle.version_parts.specs.Part.{sep_len, word_len, pre_words, post_words, dev_words}

-- the first byte, or the one behind a separator
abbrev pub letter : List ℕ → ℕ
letter v = small (byte_at (drop (sep_len v) v) 0)

-- a part with a word and what follows: its word in front, or behind a separator
pub data Labelled (X K : Regex) (v : List ℕ) : Type 0 where
  plain : (t y : List ℕ) → v ≡ t ++ y → matches X t → matches (counted K) y → Labelled X K v
  behind : (b : ℕ) (t y : List ℕ) → is_separator b ≡ true → v ≡ b ∷ t ++ y → matches X t → matches (counted K) y → Labelled X K v

regroup : (t c n w : List ℕ) → (t ++ (c ++ n)) ++ w ≡ t ++ (c ++ (n ++ w))
regroup t c n w = simp append_assoc

module _ (X K : Regex) where
  pub unlabel : (v : List ℕ) → matches (labelled X then K) v → Labelled X K v
  unlabel v (u, w, e, (sp, u₁, e₁, inl none, (t, u₂, e₂, x, (c, n, e₃, mc, mn))), k) =
      plain t (c ++ (n ++ w)) (rw (e, e₁, none, e₂, e₃) (regroup t c n w)) x (c, n ++ w, refl, mc, (n, w, refl, mn, k))
  unlabel v (u, w, e, (sp, u₁, e₁, inr (b, this, h), (t, u₂, e₂, x, (c, n, e₃, mc, mn))), k) =
      behind b t (c ++ (n ++ w)) h (rw (e, e₁, this, e₂, e₃) (ap (λ (l : List ℕ). b ∷ l) (regroup t c n w))) x (c, n ++ w, refl, mc, (n, w, refl, mn, k))

  -- the separator in front may be left out
  label : (t y : List ℕ) → matches X t → matches (counted K) y → matches (labelled X then K) (t ++ y)
  label t y x (c, z, e, mc, (n, w, f, mn, k)) =
      (t ++ (c ++ n), w, rw (e, f) (sym (regroup t c n w)), ([], t ++ (c ++ n), refl, inl refl, (t, c ++ n, refl, x, (c, n, refl, mc, mn))), k)

module _ {X : Regex} {F : List ℕ} (begun : Begins X F) where
  word_first : (t y : List ℕ) → matches X t → lettered F (byte_at (t ++ y) 0) ≡ true
  word_first [] y x = absurd (true≢false (sym (begun.heads [] x) ∙ begun.full))
  word_first (b ∷ t) y x = begun.heads (b ∷ t) x

  pub word_there : (t : List ℕ) → matches X t → 0 < length t
  word_there [] x = absurd (true≢false (sym (begun.heads [] x) ∙ begun.full))
  word_there (b ∷ t) x = omega arith

  pub no_separator : (t y : List ℕ) → matches X t → is_separator (byte_at (t ++ y) 0) ≡ false
  no_separator t y x = apart is_separator (lettered F) separator_ascii begun.no_sep (byte_at (t ++ y) 0) (word_first t y x)

  module _ (K : Regex) (v : List ℕ) where
    pub labelled_letter : Labelled X K v → listed F (letter v) ≡ true
    labelled_letter (plain t y e x c) = rw (e, no_separator t y x) (word_first t y x)
    labelled_letter (behind b t y h e x c) = rw (e, h) (word_first t y x)

    -- a separator in front can go to the part before
    labelled_again : Labelled X K v → is_separator (byte_at v 0) ≡ true → Cut (1 + number_len (drop 1 v)) (labelled X then K) v
    labelled_again (plain t y e x c) h = absurd (false≢true (sym (no_separator t y x) ∙ rw e at h))
    labelled_again (behind b t y s e x c) h =
        let stop : is_digit (byte_at (t ++ y) 0) ≡ false = apart is_digit (lettered F) digit_ascii begun.no_digit (byte_at (t ++ y) 0) (word_first t y x) in
        rw (e, number_none (t ++ y) stop) (omega arith, label X K t y x c)

-- The end, whitespace and `+`; before those a dev part, a post part, a pre part. (The end reads as byte 0.)
abbrev pub locals : List ℕ
locals = 0 ∷ 9 ∷ 10 ∷ 11 ∷ 12 ∷ 13 ∷ 32 ∷ code "+" ∷ []

abbrev pub devs : List ℕ
devs = bytes "d" ++ locals

abbrev pub posts : List ℕ
posts = bytes "pr" ++ devs

abbrev pub pres : List ℕ
pres = bytes "abc" ++ posts

abbrev pub separators : List ℕ
separators = bytes ".-_"

spaces_first : (v : List ℕ) → matches spaces v → lettered locals (byte_at v 0) ≡ true
spaces_first [] h = refl
spaces_first (b ∷ v) h = inside is_space (lettered locals) space_ascii refl b (and_parts (is_space b) (all is_space v) h).0

dev_first : (v : List ℕ) → matches after_dev v → lettered locals (byte_at v 0) ≡ true
dev_first v m = go (there_or_not local spaces v m)
  where
    go : matches spaces v ⊎ matches (local then spaces) v → lettered locals (byte_at v 0) ≡ true
    go (inl k) = spaces_first v k
    go (inr (u, w, e, (a, c, f, (b, g, h), rest), k)) = rw (e, f, g, eqb-true b (code "+") h)

dev_plain : (v : List ℕ) → matches after_dev v → is_separator (byte_at v 0) ≡ false
dev_plain v k = apart is_separator (lettered locals) separator_ascii refl (byte_at v 0) (dev_first v k)

dev_letter : (v : List ℕ) → matches after_dev v → listed locals (letter v) ≡ true
dev_letter v k = rw (dev_plain v k) (dev_first v k)

pub post_letter : (v : List ℕ) → matches after_post v → listed devs (letter v) ≡ true
post_letter v m = go (there_or_not dev after_dev v m)
  where
    go : matches after_dev v ⊎ matches (dev then after_dev) v → listed devs (letter v) ≡ true
    go (inl k) = among locals (listed devs) refl (letter v) (dev_letter v k)
    go (inr m) = among (bytes "d") (listed devs) refl (letter v) (labelled_letter dev_begins after_dev v (unlabel dev_word after_dev v m))

-- after a release or a pre part there may also be `-` and a number
abbrev pub Opens : List ℕ → List ℕ → Type 0
Opens F v = (listed F (letter v) ≡ true) ⊎ (byte_at v 0 ≡ code "-")

pre_opens : (v : List ℕ) → matches after_pre v → Opens posts v
pre_opens v m = go (there_or_not post after_post v m)
  where
    go : matches after_post v ⊎ matches (post then after_post) v → Opens posts v
    go (inl k) = inl (among devs (listed posts) refl (letter v) (post_letter v k))
    go (inr (u, w, e, inl (a, n, f, (b, g, h), num), k)) = inr (rw (e, f, g) (eqb-true b (code "-") h))
    go (inr (u, w, e, inr m, k)) =
        inl (among (bytes "pr") (listed posts) refl (letter v) (labelled_letter post_begins after_post v (unlabel post_word after_post v (u, w, e, m, k))))

pub release_opens : (v : List ℕ) → matches after_release v → Opens pres v
release_opens v m = go (there_or_not (labelled pre_word) after_pre v m)
  where
    wider : Opens posts v → Opens pres v
    wider (inl h) = inl (among posts (listed pres) refl (letter v) h)
    wider (inr h) = inr h

    go : matches after_pre v ⊎ matches (labelled pre_word then after_pre) v → Opens pres v
    go (inl k) = wider (pre_opens v k)
    go (inr m) = inl (among (bytes "abcpr") (listed pres) refl (letter v) (labelled_letter pre_begins after_pre v (unlabel pre_word after_pre v m)))

-- so the first byte is a separator or such a letter
opens_first : (F : List ℕ) (v : List ℕ) → Opens F v → lettered (separators ++ F) (byte_at v 0) ≡ true
opens_first F v (inr h) = rw h
opens_first F v (inl h) = go (is_separator (byte_at v 0)) refl h
  where
    go : (t : Bool) → is_separator (byte_at v 0) ≡ t → listed F (small (byte_at (drop (cond t 1 0) v) 0)) ≡ true → lettered (separators ++ F) (byte_at v 0) ≡ true
    go true e h = inside is_separator (lettered (separators ++ F)) separator_ascii refl (byte_at v 0) e
    go false e h = simp (h, or-true)

pub opens_not : (p : ℕ → Bool) → Ascii p → (F : List ℕ) → Apart p (lettered (separators ++ F)) → (v : List ℕ) → Opens F v → p (byte_at v 0) ≡ false
opens_not p ascii F tried v o = apart p (lettered (separators ++ F)) ascii tried (byte_at v 0) (opens_first F v o)

-- behind a separator stands no number
pub letter_no_number : (F : List ℕ) → Apart is_digit (lettered F) → (v : List ℕ) → listed F (letter v) ≡ true → is_separator (byte_at v 0) ≡ true → number_len (drop 1 v) ≡ 0
letter_no_number F tried v h sep = number_none (drop 1 v) (apart is_digit (lettered F) digit_ascii tried (byte_at (drop 1 v) 0) (rw sep at h))

pub opens_dot : (F : List ℕ) → Apart is_digit (lettered F) → (v : List ℕ) → Opens F v → is_dot (byte_at v 0) ≡ true → number_len (drop 1 v) ≡ 0
opens_dot F tried v (inl h) dot = letter_no_number F tried v h (rw (eqb-true (byte_at v 0) (code ".") dot))
opens_dot F tried v (inr h) dot = absurd (false≢true (rw h at dot))

-- What follows a number or a word goes on with neither.
abbrev pub Quiet : List ℕ → Type 0
Quiet v = (is_digit (byte_at v 0) ≡ false) × (goes_on (small (byte_at v 0)) ≡ false)

opens_quiet : (F : List ℕ) → Apart is_digit (lettered (separators ++ F)) → all (λ a. not (goes_on a)) (separators ++ F) ≡ true → (v : List ℕ) → Opens F v → Quiet v
opens_quiet F tried silent v o =
    (opens_not is_digit digit_ascii F tried v o, not-true (goes_on (small (byte_at v 0))) (among (separators ++ F) (λ a. not (goes_on a)) silent (small (byte_at v 0)) (opens_first F v o)))

dev_quiet : (v : List ℕ) → matches after_dev v → Quiet v
dev_quiet v k = opens_quiet locals refl refl v (inl (dev_letter v k))

pub post_quiet : (v : List ℕ) → matches after_post v → Quiet v
post_quiet v k = opens_quiet devs refl refl v (inl (post_letter v k))

pre_quiet : (v : List ℕ) → matches after_pre v → Quiet v
pre_quiet v k = opens_quiet posts refl refl v (pre_opens v k)

pub counted_quiet : (K : Regex) → ((v : List ℕ) → matches K v → Quiet v) → (y : List ℕ) → matches (counted K) y → goes_on (small (byte_at y 0)) ≡ false
counted_quiet K quiet y (c, z, e, inl none, (n, w, f, inl empty, k)) = rw (e, none, f, empty) (quiet w k).1
counted_quiet K quiet y (c, z, e, inl none, (n, w, f, inr num, k)) =
    rw (e, none, f) (not-true (goes_on (small (byte_at (n ++ w) 0))) (inside is_digit (λ b. not (goes_on (small b))) digit_ascii refl (byte_at (n ++ w) 0) (number_first n num w)))
counted_quiet K quiet y (c, z, e, inr (b, this, h), rest) =
    rw (e, this) (not-true (goes_on (small b)) (inside is_separator (λ b. not (goes_on (small b))) separator_ascii refl b h))

-- A part that is not there is not found in what follows it.
pub no_dev : (v : List ℕ) → matches after_dev v → word_len dev_words (drop (sep_len v) v) ≡ 0
no_dev v k = no_words dev_words (drop (sep_len v) v) (among locals (clear dev_words) refl (letter v) (dev_letter v k))

pub no_post : (v : List ℕ) → matches after_post v → word_len post_words (drop (sep_len v) v) ≡ 0
no_post v k = no_words post_words (drop (sep_len v) v) (among devs (clear post_words) refl (letter v) (post_letter v k))

pub no_pre : (v : List ℕ) → matches after_pre v → word_len pre_words (drop (sep_len v) v) ≡ 0
no_pre v m = go (there_or_not post after_post v m)
  where
    word : Labelled post_word after_post v → word_len pre_words (drop (sep_len v) v) ≡ 0
    word (plain t y e x c) =
        rw (e, no_separator post_begins t y x) (post_no_pre y (counted_quiet after_post post_quiet y c) t x)
    word (behind b t y h e x c) = rw (e, h) (post_no_pre y (counted_quiet after_post post_quiet y c) t x)

    go : matches after_post v ⊎ matches (post then after_post) v → word_len pre_words (drop (sep_len v) v) ≡ 0
    go (inl k) = no_words pre_words (drop (sep_len v) v) (among devs (clear pre_words) refl (letter v) (post_letter v k))
    go (inr (u, w, e, inl (a, n, f, (b, g, h), num), k)) =
        rw (e, f, g, eqb-true b (code "-") h) (no_words pre_words (n ++ w) (inside is_digit (λ b. clear pre_words (small b)) digit_ascii refl (byte_at (n ++ w) 0) (number_first n num w)))
    go (inr (u, w, e, inr m, k)) = word (unlabel post_word after_post v (u, w, e, m, k))

-- A separator in front, and the number behind it, can go to the part before.
dev_again : (v : List ℕ) → matches after_dev v → is_separator (byte_at v 0) ≡ true → Cut (1 + number_len (drop 1 v)) after_dev v
dev_again v k h = absurd (false≢true (sym (dev_plain v k) ∙ h))

post_again : (v : List ℕ) → matches after_post v → is_separator (byte_at v 0) ≡ true → Cut (1 + number_len (drop 1 v)) after_post v
post_again v m h = go (there_or_not dev after_dev v m)
  where
    go : matches after_dev v ⊎ matches (dev then after_dev) v → Cut (1 + number_len (drop 1 v)) after_post v
    go (inl k) = absurd (false≢true (sym (dev_plain v k) ∙ h))
    go (inr m) =
        let (room, k) = labelled_again dev_begins after_dev v (unlabel dev_word after_dev v m) h in
        (room, with_it dev after_dev _ k)

pre_again : (v : List ℕ) → matches after_pre v → is_separator (byte_at v 0) ≡ true → Cut (1 + number_len (drop 1 v)) after_pre v
pre_again v m h = go (there_or_not post after_post v m)
  where
    go : matches after_post v ⊎ matches (post then after_post) v → Cut (1 + number_len (drop 1 v)) after_pre v
    go (inl k) =
        let (room, k) = post_again v k h in
        (room, without post after_post _ k)
    go (inr (u, w, e, inl (a, n, f, (b, g, i), num), k)) =
        rw (e, f, g, number_whole n num w (post_quiet w k).0) (cut_seam (1 + length n) after_pre (b ∷ n) w (omega arith) (without post after_post w k))
    go (inr (u, w, e, inr m, k)) =
        let (room, (u, w, e, m, k)) = labelled_again post_begins after_post v (unlabel post_word after_post v (u, w, e, m, k)) h in
        (room, (u, w, e, inr (inr m), k))

-- What a part needs of what may follow it.
pub record Follows (K : Regex) : Type 0 where
  pub quiet : (v : List ℕ) → matches K v → Quiet v
  pub again : (v : List ℕ) → matches K v → is_separator (byte_at v 0) ≡ true → Cut (1 + number_len (drop 1 v)) K v

pub dev_follows : Follows after_dev
dev_follows = record { quiet = dev_quiet; again = dev_again }

pub post_follows : Follows after_post
post_follows = record { quiet = post_quiet; again = post_again }

pub pre_follows : Follows after_pre
pre_follows = record { quiet = pre_quiet; again = pre_again }
