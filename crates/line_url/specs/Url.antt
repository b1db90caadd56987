-- The URL at a place of a line. Its end is the first place at which it may not go on: how that place is found is no part of this.
use Rattle.std.specs.Prelude.{ℕ, zero, suc, ◌+◌, ◌-◌, Bool, cond, not, ◌&&◌, ◌||◌, List, leb, ltb, eqb, length}
use Prim.Native.Char.{code}
use Rattle.refusal.specs.Answer.{Answer, good, refused}
use Rattle.text.specs.Class.{is_space}
use Rattle.refusal.specs.Refusal.{span}
use Rattle.text.specs.Scan.{skip, byte_at}
use Rattle.refusal.specs.declared.place.Span.{Span}

-- "CR or LF"
abbrev pub is_break : ℕ → Bool
is_break b = eqb b 13 || eqb b 10

-- whitespace that is neither
abbrev pub is_blank : ℕ → Bool
is_blank b = is_space b && not (is_break b)

-- "`;` or `#`"
abbrev pub is_mark : ℕ → Bool
is_mark b = eqb b (code ";") || eqb b (code "#")

-- "followed, after any further whitespace, by the end, `;` or `#`"
unfoldable pub closes_at : List ℕ → ℕ → Bool
closes_at s at = let past = skip is_space s at in leb (length s) past || is_mark (byte_at s past)

-- "A `;` or `#` followed by whitespace is counted and ends it."
abbrev pub marked_at : List ℕ → ℕ → Bool
marked_at s at = is_mark (byte_at s (at - 1))

-- "CR or LF ends it and is consumed, not counted. Whitespace followed .. ends it, not counted. Other whitespace counts.": whether whitespace at a place is where the URL ends
unfoldable pub stops_at : List ℕ → ℕ → Bool
stops_at s at = is_space (byte_at s at) && (marked_at s at || is_break (byte_at s at) || closes_at s at)

-- the first of n places at which a test holds, or the place after them
unfoldable pub first_from : (ℕ → Bool) → ℕ → ℕ → ℕ
first_from p zero at = at
first_from p (suc n) at = let later = first_from p n (suc at) in cond (p at) at later

-- where the URL that starts at a place ends
unfoldable pub url_end : List ℕ → ℕ → ℕ
url_end s start = first_from (stops_at s) (length s - start) start

-- "CR or LF ends it and is consumed", and so is other whitespace that ended it; a `;` or `#` ends it by itself, and reading goes on just behind
unfoldable pub goes_on : List ℕ → ℕ → ℕ
goes_on s end = cond (marked_at s end) end (cond (ltb end (length s)) (end + 1) end)

-- "The URL starts after whitespace."; "13: URL empty: start, 0"
unfoldable pub url_at : List ℕ → ℕ → Answer (Span × ℕ)
url_at s at =
    let start = skip is_space s at in
    let end = url_end s start in
    cond (ltb start end) (good (span start (end - start), goes_on s end)) (refused 13 start 0)
