-- The release numbers that are read are the values of the numbers that stand there; "`~=` needs two release numbers" asks that there are two. Assumes
-- nothing.
use Rattle.std.proofs.lemmas.List.{drop-take}
use mathlib.Core.Path.{◌≡◌, refl, sym, ap, ap₂, ◌∙◌}
use mathlib.Core.Bool.{Bool, true, false}
use mathlib.Core.List.{List, [], ◌∷◌, ◌++◌}
use mathlib.Core.Option.{some}
use Prim.Native.Nat.{ℕ, zero, suc, ◌+◌, ◌<◌}
use Prim.Native.Char.{code}
use native.Mathlib.Nat.{add_assoc, add-zero}
use native.Mathlib.Omega.{arith}
use borrow.Author.Tests.{lt-ltb, le-ltb, eqb-true}
use lib.Dec.{ltb}
use lib.ListN.{length, take, drop}
use lib.Seq.{slice, take-add, drop-drop}
use Rattle.std.proofs.lemmas.Bool.{and_parts}
use Rattle.text.specs.Class.{is_digit}
use Rattle.text.specs.Scan.{byte_at}
use Rattle.version_language.proofs.Places.{Held, layout_holds}
use Rattle.version_language.proofs.Readings.{read_any}
use Rattle.version_language.proofs.Whole.{value_whole, number_there, number_digits}
use Rattle.version_language.specs.Appendix.{none, some as more, matches, all, many, ◌then◌, sign, number}
use Rattle.version_number.specs.Number.{value, number_len}
use Rattle.version_parts.specs.Joined as Joined
use Rattle.version_parts.specs.Joined.{more_len}
use Rattle.version_parts.specs.Release.{is_dot}
use Rattle.version.specs.Layout.{layout, has_release, has_two}
use Rattle.version.specs.Reading.{Version, numbers_from, numbers, reading}

-- the numbers behind the first
abbrev pub Others : List ℕ → Type 0
Others m = matches (many (sign "." then number)) m

-- inside a number nothing new starts
inside_number : (u w : List ℕ) → all is_digit u ≡ true → numbers_from true (u ++ w) ≡ numbers_from true w
unfolding numbers_from
inside_number [] w h = refl
inside_number (b ∷ u) w h =
    let (first, rest) = and_parts (is_digit b) (all is_digit u) h in
    rw first (inside_number u w rest)

number_ends : (w : List ℕ) → is_digit (byte_at w 0) ≡ false → numbers_from true w ≡ numbers w
unfolding numbers_from
number_ends [] stop = refl
number_ends (b ∷ w) stop = rw stop

-- a number, and what stands behind it
pub number_read : (u w : List ℕ) → matches number u → is_digit (byte_at w 0) ≡ false → numbers (u ++ w) ≡ value u ∷ numbers w
unfolding numbers_from
number_read u w m stop = go u (number_there u m) (number_digits u m)
  where
    go : (u : List ℕ) → 0 < length u → all is_digit u ≡ true → numbers (u ++ w) ≡ value u ∷ numbers w
    go [] l h = absurd (omega arith)
    go (b ∷ u) l h =
        let (first, rest) = and_parts (is_digit b) (all is_digit u) h in
        rw first (ap₂ (λ (x : ℕ) (l : List ℕ). x ∷ l) (value_whole 0 (b ∷ u) w h stop) (inside_number u w rest ∙ number_ends w stop))

pub others_stop : (m : List ℕ) → Others m → is_digit (byte_at m 0) ≡ false
others_stop m none = refl
others_stop m (more a rest e (j, x, f, (b, g, h), k) again) = rw (e, f, g, eqb-true b (code ".") h)

-- a byte that is no digit says nothing
dot_read : (b : ℕ) (w : List ℕ) → is_dot b ≡ true → numbers (b ∷ w) ≡ numbers w
unfolding numbers_from
dot_read b w h = rw (eqb-true b (code ".") h)

others_some : (m : List ℕ) → Others m → 0 < length m → 0 < length (numbers m)
others_some m none l = absurd (omega arith)
others_some m (more a rest e (j, x, f, (b, g, h), k) again) l =
    let read : numbers m ≡ value x ∷ numbers rest = rw (e, f, g) (dot_read b (x ++ rest) h ∙ number_read x rest k (others_stop rest again)) in
    rw read (omega arith)

-- what the release's numbers say, from the first of them on
module _ (s : List ℕ) (at n r : ℕ) where
  pub release_joined : slice at (at + n + r) s ≡ slice at (at + n) s ++ slice (at + n) (at + n + r) s
  release_joined = rw (add_assoc at n r, drop-take at (n + r) s, take-add n r (drop at s), drop-take at n s, ← add_assoc at n r, drop-take (at + n) r s, drop-drop n at s)

  pub release_read : matches number (slice at (at + n) s) → Others (slice (at + n) (at + n + r) s) → numbers (slice at (at + n + r) s) ≡ value (slice at (at + n) s) ∷ numbers (slice (at + n) (at + n + r) s)
  release_read first others =
      ap numbers release_joined ∙ number_read (slice at (at + n) s) (slice (at + n) (at + n + r) s) first (others_stop (slice (at + n) (at + n + r) s) others)

-- the release goes on exactly if it has further numbers
goes_on : (at r : ℕ) (w : List ℕ) → (0 < r → 0 < length w) → Others (take r w) → ltb at (at + r) ≡ ltb 1 (suc (length (numbers (take r w))))
unfolding numbers_from
goes_on at zero w room others = rw (add-zero at) (le-ltb at at (omega arith))
goes_on at (suc r) [] room others = absurd (omega (arith, room (omega arith)))
goes_on at (suc r) (b ∷ w) room others =
    let some = others_some (b ∷ take r w) others (omega arith) in
    lt-ltb at (at + suc r) (omega arith) ∙ sym (lt-ltb 1 (suc (length (numbers (b ∷ take r w)))) (omega arith))

pub more_room : (w : List ℕ) → 0 < Joined.more is_dot number_len w → 0 < length w
unfolding Joined.more more_len
more_room [] h = absurd (omega arith)
more_room (b ∷ w) h = omega arith

-- "`~=` needs two release numbers": the layout goes on behind the first exactly if two numbers or more are read
pub two_numbers : (s : List ℕ) (v : Version) (star : Bool) → reading s ≡ some (v, star) → has_two (layout s) ≡ ltb 1 (length v.release)
unfolding layout
two_numbers s v star h =
    let (there, same) = read_any s v star h in
    rw same (go there (layout_holds s there))
  where
    go : has_release (layout s) ≡ true → Held s (layout s) → has_two (layout s) ≡ ltb 1 (length (numbers (slice (layout s).epoch (layout s).release s)))
    go there held =
        let w = drop (layout s).first s in
        let others : Others (take (Joined.more is_dot number_len w) w) = rw (drop-take (layout s).first (Joined.more is_dot number_len w) s) at held.others in
        rw (release_read s (layout s).epoch (number_len (drop (layout s).epoch s)) (Joined.more is_dot number_len w) held.first held.others, drop-take (layout s).first (Joined.more is_dot number_len w) s)
        (goes_on (layout s).first (Joined.more is_dot number_len w) w (more_room w) others)
