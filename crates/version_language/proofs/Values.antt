-- What is read as a version is what the Appendix's groups say, each at its place: numbers are the values of the digits that the part's expression has
-- there, a pre part's letter is its word's, and local segments are what stands between the separators. Assumes nothing.
use Rattle.std.proofs.lemmas.List.{drop-take}
use mathlib.Core.Path.{◌≡◌, refl, sym, ap, ◌∙◌}
use mathlib.Core.Bool.{Bool, true, false, cond, not, true≢false}
use mathlib.Core.List.{List, [], ◌∷◌, ◌++◌, map, append-nil}
use mathlib.Core.Logic.{◌⊎◌, inl, inr}
use mathlib.Core.Option.{Option, none, some}
use Prim.Native.Nat.{ℕ, ◌+◌, ◌<◌}
use Prim.Native.Char.{code}
use native.Mathlib.Omega.{arith}
use borrow.Author.Tests.{eqb-true, ltb-true, ltb-false, not-true}
use lib.Dec.{ltb}
use lib.ListN.{drop, take}
use lib.Seq.{slice, slice_empty, drop-drop}
use Rattle.std.proofs.lemmas.Bool.{and_parts}
use Rattle.text.specs.Class.{is_digit, is_separator, small}
use Rattle.text.specs.Scan.{byte_at}
use Rattle.text.specs.Word.{bytes}
use Rattle.version_language.proofs.Bytes.{digit_ascii, separator_ascii, inside}
use Rattle.version_language.proofs.Front.{word_there, no_separator}
use Rattle.version_language.proofs.Parts.{labelled, pre_word, post_word, dev_word, local}
use Rattle.version_language.proofs.Places.{layout_holds}
use Rattle.version_language.proofs.Readings.{read_any}
use Rattle.version_language.proofs.Sound.{part_front, post_front, pre_word_lem, dev_word_lem, local_front}
use Rattle.version_language.proofs.TwoNumbers.{number_read, others_stop, release_joined, release_read}
use Rattle.version_language.proofs.Words.{pre_begins}
use Rattle.version_language.specs.Appendix as Appendix
use Rattle.version_language.specs.Appendix.{Regex, many, matches, all, opt, ◌then◌, sign, separator, number, segment, pre, post, dev}
use Rattle.version_number.specs.Number.{value_from, value, number_len}
use Rattle.version_number.specs.Place.{past}
use Rattle.version_parts.specs.Part.{sep_len, pre_words, dev_words, pre_len, post_len, dev_len}
use Rattle.version_parts.specs.Joined.{more}
use Rattle.version_parts.specs.Local.{local_len}
use Rattle.version_parts.specs.Release.{is_dot}
use Rattle.version.specs.Layout.{layout}
use Rattle.version.specs.Reading.{Phase, Segment, Version, phase, numbers_from, numbers, pieces, present, reading}
use Rattle.version.specs.Reading as Reading

-- what a part says: the digits of its expression
abbrev pub EpochSays : List ℕ → ℕ → Type 0
EpochSays part k = ((part ≡ []) × (k ≡ 0)) ⊎ ((n : List ℕ) × (part ≡ n ++ bytes "!") × matches number n × (k ≡ value n))

abbrev pub LabelSays : Regex → List ℕ → ℕ → Type 0
LabelSays X part k =
    (a x c n : List ℕ) × (part ≡ a ++ (x ++ (c ++ n))) × matches (opt separator) a × matches X x × matches (opt separator) c × matches (opt number) n × (k ≡ value n)

abbrev pub PostSays : List ℕ → ℕ → Type 0
PostSays part k = ((n : List ℕ) × (part ≡ code "-" ∷ n) × matches number n × (k ≡ value n)) ⊎ LabelSays post_word part k

-- an optional part, which is there or not
abbrev pub Perhaps : (List ℕ → ℕ → Type 0) → List ℕ → Option ℕ → Type 0
Perhaps P part none = part ≡ []
Perhaps P part (some k) = P part k

-- a pre part says its letter too
abbrev pub PreSays : List ℕ → Option (Phase × ℕ) → Type 0
PreSays part none = part ≡ []
PreSays part (some (p, k)) =
    (a x c n : List ℕ) × (part ≡ a ++ (x ++ (c ++ n))) × matches (opt separator) a × matches pre_word x × matches (opt separator) c × matches (opt number) n × (p ≡ phase (small (byte_at x 0))) × (k ≡ value n)

-- the release says its first number and those behind it
pub data OthersSay : List ℕ → List ℕ → Type 0 where
  no_more : OthersSay [] []
  one_more : {s : List ℕ} (x rest l : List ℕ) → s ≡ code "." ∷ (x ++ rest) → matches number x → OthersSay rest l → OthersSay s (value x ∷ l)

abbrev pub ReleaseSays : List ℕ → List ℕ → Type 0
ReleaseSays part l = (n m k : List ℕ) × (part ≡ n ++ m) × matches number n × OthersSay m k × (l ≡ value n ∷ k)

-- and the local part what stands between its separators
abbrev pub LocalSays : List ℕ → List Segment → Type 0
LocalSays part l =
    ((part ≡ []) × (l ≡ [])) ⊎ ((m : List ℕ) × (part ≡ code "+" ∷ m) × matches (segment then many (separator then segment)) m × (l ≡ map Reading.segment (pieces is_separator m)))

-- bytes that are no digits say nothing
abbrev mute : List ℕ → Bool
mute u = all (λ b. not (is_digit b)) u

mute_read : (u w : List ℕ) → mute u ≡ true → numbers (u ++ w) ≡ numbers w
unfolding numbers_from
mute_read [] w h = refl
mute_read (b ∷ u) w h =
    let (first, rest) = and_parts (not (is_digit b)) (mute u) h in
    rw (not-true (is_digit b) first) (mute_read u w rest)

separator_mute : (a : List ℕ) → matches (opt separator) a → mute a ≡ true
separator_mute a (inl e) = rw e
separator_mute a (inr (b, e, h)) = rw (e, inside is_separator (λ b. not (is_digit b)) separator_ascii refl b h)

small_mute : (u : List ℕ) → mute (map small u) ≡ true → mute u ≡ true
small_mute [] h = refl
small_mute (b ∷ u) h =
    let (first, rest) = and_parts (not (is_digit (small b))) (mute (map small u)) h in
    rw (quiet (is_digit b) refl (not-true (is_digit (small b)) first), small_mute u rest)
  where
    quiet : (t : Bool) → is_digit b ≡ t → is_digit (small b) ≡ false → not (is_digit b) ≡ true
    quiet true e out = absurd (true≢false (sym (inside is_digit (λ b. is_digit (small b)) digit_ascii refl b e) ∙ out))
    quiet false e out = rw e

word_mute : (u w : List ℕ) → map small u ≡ w → mute w ≡ true → mute u ≡ true
word_mute u w e h = small_mute u (rw e h)

pre_mute : (x : List ℕ) → matches pre_word x → mute x ≡ true
pre_mute x (inl m) = word_mute x _ m refl
pre_mute x (inr (inl m)) = word_mute x _ m refl
pre_mute x (inr (inr (inl m))) = word_mute x _ m refl
pre_mute x (inr (inr (inr (inl m)))) = word_mute x _ m refl
pre_mute x (inr (inr (inr (inr (inl m))))) = word_mute x _ m refl
pre_mute x (inr (inr (inr (inr (inr (inl m)))))) = word_mute x _ m refl
pre_mute x (inr (inr (inr (inr (inr (inr (inl m))))))) = word_mute x _ m refl
pre_mute x (inr (inr (inr (inr (inr (inr (inr m))))))) = word_mute x _ m refl

post_mute : (x : List ℕ) → matches post_word x → mute x ≡ true
post_mute x (inl m) = word_mute x _ m refl
post_mute x (inr (inl m)) = word_mute x _ m refl
post_mute x (inr (inr m)) = word_mute x _ m refl

-- a text's one number
first_of : (part : List ℕ) (k : ℕ) (l : List ℕ) → numbers part ≡ k ∷ l → Reading.number part ≡ k
first_of part k l e = rw e

opt_read : (n : List ℕ) → matches (opt number) n → Reading.number n ≡ value n
unfolding numbers_from value_from
opt_read n (inl e) = rw e
opt_read n (inr m) = first_of n (value n) [] (ap numbers (sym (append-nil n)) ∙ number_read n [] m refl)

label_read : (X : Regex) → ((x : List ℕ) → matches X x → mute x ≡ true) → (part : List ℕ) → matches (labelled X) part → LabelSays X part (Reading.number part)
label_read X quiet part (a, t, e, ma, (x, u, f, mx, (c, n, g, mc, mn))) =
    let read : numbers part ≡ numbers n = rw (e, f, g) (mute_read a (x ++ (c ++ n)) (separator_mute a ma) ∙ mute_read x (c ++ n) (quiet x mx) ∙ mute_read c n (separator_mute c mc)) in
    (a, x, c, n, rw (e, f, g), ma, mx, mc, mn, rw read (opt_read n mn))

dash_read : (part : List ℕ) → matches post part → PostSays part (Reading.number part)
dash_read part (inl (a, n, e, (b, f, h), num)) =
    let this : part ≡ code "-" ∷ n = rw (e, f, eqb-true b (code "-") h) in
    let read : numbers part ≡ numbers n = ap numbers this ∙ mute_read (code "-" ∷ []) n refl in
    inl (n, this, num, rw read (opt_read n (inr num)))
dash_read part (inr m) = inr (label_read post_word post_mute part m)

epoch_read : (part : List ℕ) → matches (opt (number then sign "!")) part → EpochSays part (Reading.number part)
unfolding numbers_from
epoch_read part (inl e) = inl (e, rw e)
epoch_read part (inr (n, x, e, num, (b, f, h))) =
    let this : part ≡ n ++ bytes "!" = rw (e, f, eqb-true b (code "!") h) in
    inr (n, this, num, first_of part (value n) (numbers (bytes "!")) (ap numbers this ∙ number_read n (bytes "!") num refl))

-- a word's first letter stands behind the separator
letter_read : (a x t : List ℕ) → matches (opt separator) a → matches pre_word x → byte_at (a ++ (x ++ t)) (sep_len (a ++ (x ++ t))) ≡ byte_at x 0
letter_read a [] t ma mx = absurd (omega (arith, word_there pre_begins [] mx))
letter_read a (d ∷ x) t (inl e) mx = rw (e, no_separator pre_begins (d ∷ x) t mx)
letter_read a (d ∷ x) t (inr (b, e, h)) mx = rw (e, h)

letter_of : (part a x t : List ℕ) → part ≡ a ++ (x ++ t) → matches (opt separator) a → matches pre_word x → byte_at part (sep_len part) ≡ byte_at x 0
letter_of part a x t e ma mx = rw e (letter_read a x t ma mx)

pre_read : (part : List ℕ) → matches pre part → PreSays part (some (phase (small (byte_at part (sep_len part))), Reading.number part))
pre_read part m =
    let (a, x, c, n, e, ma, mx, mc, mn, k) = label_read pre_word pre_mute part m in
    (a, x, c, n, e, ma, mx, mc, mn, ap (λ (b : ℕ). phase (small b)) (letter_of part a x (c ++ n) e ma mx), k)

others_say : (m : List ℕ) → matches (many (sign "." then number)) m → OthersSay m (numbers m)
unfolding numbers_from
others_say m Appendix.none = no_more
others_say m (Appendix.some a rest e (j, x, f, (b, g, h), k) again) =
    let this : m ≡ code "." ∷ (x ++ rest) = rw (e, f, g, eqb-true b (code ".") h) in
    let read : numbers m ≡ value x ∷ numbers rest = ap numbers this ∙ number_read x rest k (others_stop rest again) in
    rw read (one_more x rest (numbers rest) this k (others_say rest again))

-- a part that is there if it is longer than nothing
part_says : {A : Type 0} (P : List ℕ → Option A → Type 0) (f : List ℕ → A) (r : Regex) (len : List ℕ → ℕ) → P [] none → ((u : List ℕ) → 0 < len u → matches r (take (len u) u)) → ((part : List ℕ) → matches r part → P part (some (f part))) → (s : List ℕ) (at : ℕ) → P (slice at (past len s at) s) (present at (past len s at) (f (slice at (past len s at) s)))
part_says P f r len absent front read s at = go (ltb at (past len s at)) refl
  where
    go : (t : Bool) → ltb at (past len s at) ≡ t → P (slice at (past len s at) s) (cond t (some (f (slice at (past len s at) s))) none)
    go true e =
        let some : 0 < len (drop at s) = omega (arith, ltb-true at (past len s at) e) in
        read (slice at (past len s at) s) (rw (drop-take at (len (drop at s)) s) (front (drop at s) some))
    go false e =
        let same : past len s at ≡ at = omega (arith, ltb-false at (past len s at) e) in
        rw (same, slice_empty at s) absent

local_says : (s : List ℕ) (at : ℕ) → LocalSays (slice at (past local_len s at) s) (cond (ltb at (past local_len s at)) (map Reading.segment (pieces is_separator (slice (at + 1) (past local_len s at) s))) [])
local_says s at = go (ltb at (past local_len s at)) refl
  where
    this : List ℕ
    this = slice at (past local_len s at) s

    behind : (m : List ℕ) → this ≡ code "+" ∷ m → slice (at + 1) (past local_len s at) s ≡ m
    behind m e = sym (drop-drop 1 at (take (past local_len s at) s)) ∙ ap (drop 1) e

    part : matches local (take (local_len (drop at s)) (drop at s)) → matches local this
    part m = rw (drop-take at (local_len (drop at s)) s) m

    found : matches local this → LocalSays this (map Reading.segment (pieces is_separator (slice (at + 1) (past local_len s at) s)))
    found (u, m, e, (b, f, h), rest) =
        let sign : this ≡ code "+" ∷ m = rw (e, f, eqb-true b (code "+") h) in
        inr (m, sign, rest, rw (behind m sign))

    go : (t : Bool) → ltb at (past local_len s at) ≡ t → LocalSays this (cond t (map Reading.segment (pieces is_separator (slice (at + 1) (past local_len s at) s))) [])
    go true e = found (part (local_front (drop at s) (omega (arith, ltb-true at (past local_len s at) e))))
    go false e =
        let same : past local_len s at ≡ at = omega (arith, ltb-false at (past local_len s at) e) in
        inl (rw same (slice_empty at s), refl)

-- what a version is read as, place by place
pub record Says (s : List ℕ) (v : Version) : Type 0 where
  pub epoch : EpochSays (slice (layout s).start (layout s).epoch s) v.epoch
  pub release : ReleaseSays (slice (layout s).epoch (layout s).release s) v.release
  pub pre : PreSays (slice (layout s).release (layout s).pre s) v.pre
  pub post : Perhaps PostSays (slice (layout s).pre (layout s).post s) v.post
  pub dev : Perhaps (LabelSays dev_word) (slice (layout s).post (layout s).dev s) v.dev
  pub local : LocalSays (slice (layout s).dev (layout s).local s) v.local

pub reading_says : (s : List ℕ) (v : Version) (star : Bool) → reading s ≡ some (v, star) → Says s v
unfolding layout
reading_says s v star h =
    let (there, same) = read_any s v star h in
    let held = layout_holds s there in
    let l = layout s in
    rw same (record {
      epoch = epoch_read (slice l.start l.epoch s) held.epoch;
      release =
          (slice l.epoch l.first s, slice l.first l.release s, numbers (slice l.first l.release s), release_joined s l.epoch (number_len (drop l.epoch s)) (more is_dot number_len (drop l.first s)), held.first, others_say (slice l.first l.release s) held.others, release_read s l.epoch (number_len (drop l.epoch s)) (more is_dot number_len (drop l.first s)) held.first held.others);
      pre = part_says PreSays (λ part. (phase (small (byte_at part (sep_len part))), Reading.number part)) pre pre_len refl (part_front pre_word pre_words pre_word_lem) pre_read s l.release;
      post = part_says (Perhaps PostSays) Reading.number post post_len refl post_front dash_read s l.pre;
      dev = part_says (Perhaps (LabelSays dev_word)) Reading.number dev dev_len refl (part_front dev_word dev_words dev_word_lem) (label_read dev_word (λ x m. word_mute x _ m refl)) s l.post;
      local = local_says s l.dev;
    })
