-- What the expression matches, the reading accepts. Assumes nothing.
use mathlib.Core.Path.{◌≡◌, refl, ap}
use mathlib.Core.Bool.{Bool, true, false, not, ◌&&◌, or-true}
use mathlib.Core.List.{List, [], ◌∷◌, ◌++◌, append_assoc, append-nil}
use mathlib.Core.Logic.{◌⊎◌, inl, inr}
use Prim.Native.Nat.{ℕ, ◌+◌, ◌<◌}
use Prim.Native.Char.{code}
use native.Mathlib.Omega.{arith}
use borrow.Author.Tests.{lt-ltb, eqb-true, eq-eqb, not-true}
use lib.Dec.{ltb, eqb}
use lib.ListN.{length, drop, length-append, length-drop}
use lib.Seq.{drop_at}
use Rattle.std.proofs.lemmas.Bool.{and_parts}
use Rattle.text.specs.Class.{is_space, is_digit, is_alnum, is_separator}
use Rattle.text.specs.Scan.{run, skip, byte_at}
use Rattle.text.specs.Word.{bytes, begins, begins_by}
use Rattle.version_language.proofs.Bytes.{Inside, Apart, lettered, Ascii, digit_ascii, space_ascii, separator_ascii, inside}
use Rattle.version_language.proofs.Front.{separators, pres, release_opens, opens_not, opens_dot}
use Rattle.version_language.proofs.Greedy.{pre_cut, post_cut, dev_cut}
use Rattle.version_language.proofs.Matching.{every}
use Rattle.version_language.proofs.Parts.{local, after_dev, after_post, after_pre, after_release, starred, released, there_or_not, Cut, cut_none, cut_seam, cut_cut, follow}
use Rattle.version_language.proofs.Release.{EndsRelease, release_there, release_place}
use Rattle.version_language.proofs.Whole.{run_whole, number_none, segment_whole, segment_there, more_first, joined_whole}
use Rattle.version_language.specs.Appendix.{matches, all, ◌then◌, spaces, segment, version_regex, pattern_regex}
use Rattle.version_parts.specs.Joined.{more}
use Rattle.version_parts.specs.Local.{segment_len, local_len}
use Rattle.version_parts.specs.Release.{is_dot}
use Rattle.version.specs.Layout.{layout, ends_at, is_starred_at}
use Rattle.version_number.specs.Number.{number_len}
use Rattle.version_parts.specs.Part.{pre_len, post_len, dev_len}
use Rattle.version.specs.Rules.{is_version, is_pattern}

-- whitespace, or the end, is of no other class
spaces_not : (p : ℕ → Bool) → p 0 ≡ false → Inside is_space (λ b. not (p b)) → (w : List ℕ) → matches spaces w → p (byte_at w 0) ≡ false
spaces_not p end tried [] k = end
spaces_not p end tried (b ∷ w) k = not-true (p b) (inside is_space (λ b. not (p b)) space_ascii tried b (and_parts (is_space b) (all is_space w) k).0)

-- the local part
local_none : (v : List ℕ) → eqb (byte_at v 0) (code "+") ≡ false → local_len v ≡ 0
unfolding local_len
local_none v h = rw h

local_len_lem : (b : ℕ) (x t : List ℕ) → eqb b (code "+") ≡ true → segment_len (x ++ t) ≡ length x → 0 < length x → local_len (b ∷ x ++ t) ≡ 1 + length x + more is_separator segment_len t
unfolding local_len
local_len_lem b x t h whole there = rw (h, whole, lt-ltb 0 (length x) there, drop_at (b ∷ x) t (1 + length x) (omega arith))

separator_no_alnum : (b : ℕ) → is_separator b ≡ true → is_alnum b ≡ false
separator_no_alnum b h = not-true (is_alnum b) (inside is_separator (λ b. not (is_alnum b)) separator_ascii refl b h)

local_cut : (v : List ℕ) → matches after_dev v → Cut (local_len v) spaces v
local_cut v m = go (there_or_not local spaces v m)
  where
    go : matches spaces v ⊎ matches (local then spaces) v → Cut (local_len v) spaces v
    go (inl k) = cut_none (local_len v) spaces v (local_none v (spaces_not (λ b. eqb b (code "+")) refl refl v k)) k
    go (inr (u, w, e, (a, z, f, (b, g, h), (x, y, i, seg, segs)), k)) =
        let stop : is_alnum (byte_at w 0) ≡ false = spaces_not is_alnum refl refl w k in
        let end : is_separator (byte_at w 0) ≡ false = spaces_not is_separator refl refl w k in
        let next : is_alnum (byte_at (y ++ w) 0) ≡ false = more_first is_separator is_alnum segment_len segment w stop separator_no_alnum y segs in
        let rest : more is_separator segment_len (y ++ w) ≡ length y = joined_whole is_separator is_alnum segment_len segment w stop separator_no_alnum (λ u w m. segment_whole u m w) segment_there (rw end) y segs in
        let whole : v ≡ b ∷ x ++ (y ++ w) = rw (e, f, g, i) (ap (λ (l : List ℕ). b ∷ l) (append_assoc x y w)) in
        rw (whole, local_len_lem b x (y ++ w) h (segment_whole x seg (y ++ w) next) (segment_there x seg), rest, ← append_assoc x y w)
        (cut_seam (1 + length x + length y) spaces (b ∷ x ++ y) w (omega (arith, length-append x y)) k)

-- only whitespace is left
ends : (s : List ℕ) (at : ℕ) → Cut at spaces s → ends_at s at ≡ true
unfolding skip
ends s at (room, k) =
    let whole : run is_space (drop at s) ≡ length (drop at s) = rw append-nil at (run_whole is_space (drop at s) [] k refl) in
    eq-eqb (at + run is_space (drop at s)) (length s) (omega (arith, length-drop at s))

-- what may follow a release in a version
release_not : (p : ℕ → Bool) → Ascii p → Apart p (lettered (separators ++ pres)) → (w : List ℕ) → matches after_release w → p (byte_at w 0) ≡ false
release_not p ascii tried w k = opens_not p ascii pres tried w (release_opens w k)

release_no_item : (w : List ℕ) → matches after_release w → (is_dot (byte_at w 0) && ltb 0 (number_len (drop 1 w))) ≡ false
release_no_item w k = go (is_dot (byte_at w 0)) refl
  where
    go : (t : Bool) → is_dot (byte_at w 0) ≡ t → (t && ltb 0 (number_len (drop 1 w))) ≡ false
    go true h = rw (opens_dot pres refl w (release_opens w k) h)
    go false h = refl

pub parts_end : EndsRelease after_release
parts_end = record {
  no_digit = release_not is_digit digit_ascii refl;
  no_mark = release_not (λ b. eqb b (code "!")) (λ b h. omega (arith, eqb-true b (code "!") h)) refl;
  no_item = release_no_item;
}

-- what the expression matches is read as a version
pub matches_accepted : (s : List ℕ) → matches version_regex s → is_version s ≡ true
unfolding is_version layout
matches_accepted s m =
    rw (release_there parts_end s m)
    (ends s (layout s).local
    (follow local_len after_dev spaces local_cut s (layout s).dev
    (follow dev_len after_post after_dev dev_cut s (layout s).post
    (follow post_len after_pre after_post post_cut s (layout s).pre
    (follow pre_len after_release after_pre pre_cut s (layout s).release
    (release_place parts_end s m))))))

-- a star and what follows it
star_text : (w : List ℕ) → matches starred w → (t : List ℕ) × (w ≡ code "." ∷ code "*" ∷ t) × matches spaces t
star_text w (u, v, e, (b, f, h), (x, t, g, (c, i, j), k)) = (t, rw (e, f, g, i, eqb-true b (code ".") h, eqb-true c (code "*") j), k)

star_not : (p : ℕ → Bool) → p (code ".") ≡ false → (w : List ℕ) → matches starred w → p (byte_at w 0) ≡ false
star_not p out w m =
    let (t, e, k) = star_text w m in
    rw e out

star_no_item : (w : List ℕ) → matches starred w → (is_dot (byte_at w 0) && ltb 0 (number_len (drop 1 w))) ≡ false
star_no_item w m =
    let (t, e, k) = star_text w m in
    rw (e, number_none (code "*" ∷ t) refl)

star_begins : (w : List ℕ) → matches starred w → begins (bytes ".*") w ≡ true
unfolding begins_by
star_begins w m =
    let (t, e, k) = star_text w m in
    rw e

star_cut : (w : List ℕ) → matches starred w → Cut 2 spaces w
star_cut w m =
    let (t, e, k) = star_text w m in
    rw e (omega arith, k)

pub star_ends : EndsRelease starred
star_ends = record { no_digit = star_not is_digit refl; no_mark = star_not (λ b. eqb b (code "!")) refl; no_item = star_no_item }

pub star_accepted : (s : List ℕ) → matches (released starred) s → is_starred_at (layout s) s ≡ true
star_accepted s m =
    let (room, k) = release_place star_ends s m in
    every _ _ _ (release_there star_ends s m) (star_begins (drop (layout s).release s) k)
    (ends s ((layout s).release + 2) (cut_cut (layout s).release 2 spaces s room (star_cut (drop (layout s).release s) k)))

-- what the pattern's expression matches is read as a pattern
pub pattern_matches_accepted : (s : List ℕ) → matches pattern_regex s → is_pattern s ≡ true
unfolding is_pattern is_version
pattern_matches_accepted s (inl m) = rw (matches_accepted s m)
pattern_matches_accepted s (inr m) = rw (star_accepted s m, or-true)
