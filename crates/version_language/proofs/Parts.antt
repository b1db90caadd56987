-- Names for the parts of the Appendix's expression, for what may follow each, and for what a part leaves of a text. Assumes nothing.
use mathlib.Core.Path.{◌≡◌, refl}
use mathlib.Core.List.{List, [], ◌++◌}
use mathlib.Core.Logic.{◌⊎◌, inl, inr}
use Prim.Native.Nat.{ℕ, ◌+◌, ◌≤◌}
use native.Mathlib.Omega.{arith}
use lib.ListN.{length, drop, length-append, length-drop}
use lib.Seq.{drop_at, drop-drop}
use Rattle.version_language.specs.Appendix.{Regex, matches, word, opt, ◌then◌, ◌or◌, many, sign, spaces, separator, number, segment, pre, post, dev}
use Rattle.version_number.specs.Place.{past}

-- a word with the Appendix's separators and number around it
abbrev pub labelled : Regex → Regex
labelled X = opt separator then X then opt separator then opt number

abbrev pub pre_word : Regex
pre_word = word "a" or word "b" or word "c" or word "rc" or word "alpha" or word "beta" or word "pre" or word "preview"

abbrev pub post_word : Regex
post_word = word "post" or word "rev" or word "r"

abbrev pub dev_word : Regex
dev_word = word "dev"

abbrev pub local : Regex
local = sign "+" then segment then many (separator then segment)

-- what may follow each part
abbrev pub after_dev : Regex
after_dev = opt local then spaces

abbrev pub after_post : Regex
after_post = opt dev then after_dev

abbrev pub after_pre : Regex
after_pre = opt post then after_post

abbrev pub after_release : Regex
after_release = opt pre then after_pre

abbrev pub starred : Regex
starred = sign "." then sign "*" then spaces

-- a release from its first number, its epoch, its `v`, its whitespace on, and L behind that number
abbrev pub from_epoch : Regex → Regex
from_epoch L = number then L

abbrev pub from_start : Regex → Regex
from_start L = opt (number then sign "!") then from_epoch L

abbrev pub from_v : Regex → Regex
from_v L = opt (word "v") then from_start L

abbrev pub begun : Regex → Regex
begun L = spaces then from_v L

-- the numbers behind the first, and K behind them
abbrev pub from_first : Regex → Regex
from_first K = many (sign "." then number) then K

abbrev pub released : Regex → Regex
released K = begun (from_first K)

-- `[-_\.]?([0-9]+)?` and K behind it
abbrev pub counted : Regex → Regex
counted K = opt separator then opt number then K

module _ (r K : Regex) (v : List ℕ) where
  -- an optional part is there or not
  pub there_or_not : matches (opt r then K) v → matches K v ⊎ matches (r then K) v
  there_or_not (u, w, e, inl none, k) = inl (rw (e, none) k)
  there_or_not (u, w, e, inr m, k) = inr (u, w, e, m, k)

  pub without : matches K v → matches (opt r then K) v
  without k = ([], v, refl, inl refl, k)

  pub with_it : matches (r then K) v → matches (opt r then K) v
  with_it (u, w, e, m, k) = (u, w, e, inr m, k)

-- n bytes taken from v leave a text of K
abbrev pub Cut : ℕ → Regex → List ℕ → Type 0
Cut n K v = (n ≤ length v) × matches K (drop n v)

pub cut_none : (n : ℕ) (K : Regex) (v : List ℕ) → n ≡ 0 → matches K v → Cut n K v
cut_none n K v none k = rw none (omega arith, k)

pub cut_seam : (n : ℕ) (K : Regex) (u w : List ℕ) → n ≡ length u → matches K w → Cut n K (u ++ w)
cut_seam n K u w size k = rw size (omega (arith, length-append u w), rw (drop_at u w (length u) refl) k)

pub cut_cut : (n m : ℕ) (K : Regex) (v : List ℕ) → n ≤ length v → Cut m K (drop n v) → Cut (n + m) K v
cut_cut n m K v room (more, k) = (omega (arith, length-drop n v), rw (← drop-drop m n v) k)

-- the place behind a part
pub follow : (len : List ℕ → ℕ) (K L : Regex) → ((v : List ℕ) → matches K v → Cut (len v) L v) → (s : List ℕ) (at : ℕ) → Cut at K s → Cut (past len s at) L s
follow len K L cut s at (room, k) = cut_cut at (len (drop at s)) L s room (cut (drop at s) k)
