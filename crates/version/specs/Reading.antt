-- What a text is read as: the parts' values, or that it is no version or pattern.
use Rattle.std.specs.Prelude.{ℕ, ◌+◌, Bool, true, false, cond, List, [], ◌∷◌, map, ltb, eqb, length, get_or}
use Prim.Native.Char.{code}
use Rattle.std.proofs.Math.Option.{Option, none, some}
use Rattle.std.proofs.Math.Seq.{slice}
use Rattle.text.specs.Class.{is_digit, is_separator, small}
use Rattle.text.specs.Scan.{run, byte_at}
use Rattle.version.specs.Layout.{layout, is_version_at, is_starred_at}
use Rattle.version_number.specs.Number.{value}
use Rattle.version_parts.specs.Part.{sep_len}
use Rattle.version.specs.declared.layout.Layout.{Layout}

-- a pre part's letter: `a` and `alpha`, `b` and `beta`, and the others
pub data Phase : Type 0 where
  alpha beta candidate : Phase

-- a local segment: a number if it is all digits, else its letters and digits, the letters small
pub data Segment : Type 0 where
  numeric : ℕ → Segment
  lettered : List ℕ → Segment

pub record Version : Type 0 where
  pub epoch : ℕ
  pub release : List ℕ
  pub pre : Option (Phase × ℕ)
  pub post : Option ℕ
  pub dev : Option ℕ
  pub local : List Segment

-- the numbers that a text's runs of digits say, in order; `inside` where its first byte goes on with a run
unfoldable pub numbers_from : Bool → List ℕ → List ℕ
numbers_from inside [] = []
numbers_from inside (b ∷ s) =
    cond (is_digit b) (cond inside (numbers_from true s) (value (b ∷ s) ∷ numbers_from true s)) (numbers_from false s)

abbrev pub numbers : List ℕ → List ℕ
numbers s = numbers_from false s

-- the one number of a text, and 0 where it has none: an optional number that is left out is 0
abbrev pub number : List ℕ → ℕ
number s = get_or (numbers s) 0 0

abbrev pub phase : ℕ → Phase
phase b = cond (eqb b (code "a")) alpha (cond (eqb b (code "b")) beta candidate)

-- a text cut at the bytes of a class
abbrev pub attach : ℕ → List (List ℕ) → List (List ℕ)
attach b [] = (b ∷ []) ∷ []
attach b (piece ∷ pieces) = (b ∷ piece) ∷ pieces

unfoldable pub pieces : (ℕ → Bool) → List ℕ → List (List ℕ)
pieces p [] = [] ∷ []
pieces p (b ∷ s) = cond (p b) ([] ∷ pieces p s) (attach b (pieces p s))

abbrev pub segment : List ℕ → Segment
segment s = cond (ltb (run is_digit s) (length s)) (lettered (map small s)) (numeric (value s))

-- what stands there if the part is longer than nothing
abbrev pub present : {A : Type 0} → ℕ → ℕ → A → Option A
present from to a = cond (ltb from to) (some a) none

abbrev pub version_at : Layout → List ℕ → Version
version_at l s = record {
  epoch = number (slice l.start l.epoch s);
  release = numbers (slice l.epoch l.release s);
  pre =
      let part = slice l.release l.pre s in
      present l.release l.pre (phase (small (byte_at part (sep_len part))), number part);
  post = present l.pre l.post (number (slice l.pre l.post s));
  dev = present l.post l.dev (number (slice l.post l.dev s));
  local = cond (ltb l.dev l.local) (map segment (pieces is_separator (slice (l.dev + 1) l.local s))) [];
}

-- the version, and whether `.*` follows
unfoldable pub reading : List ℕ → Option (Version × Bool)
reading s =
    let l = layout s in
    cond (is_version_at l s) (some (version_at l s, false))
    (cond (is_starred_at l s) (some (version_at l s, true))
    none)
