-- The language of markers: what is read from a place on to the end of the line, or the first fault met from left to right.
use Prim.Native.Char.{code}
use Rattle.std.specs.Prelude.{ℕ, zero, suc, ◌+◌, ◌-◌, true, false, cond, List, [], ◌∷◌, ◌++◌, ltb, eqb, length, Result, Ok, Err}
use Rattle.marker_verdict.specs.Found.{found_at}
use Rattle.marker_verdict.specs.declared.found.Found.{Found}
use Rattle.marker_verdict.specs.declared.verdict.Verdict.{Verdict}
use Rattle.marker_verdict.specs.declared.verdict.Verdict.TheVariants.{Kept, KeptWarned, Ignored, IgnoredTwice}
use Rattle.marker_kind.specs.declared.kind.Comparison.{Comparison}
use Rattle.marker_store.specs.declared.marks.Warning.{Warning}
use Rattle.cursor.specs.Limits.{max_depth, max_comparisons}
use Rattle.text.specs.Class.{is_space, is_word_byte}
use Rattle.refusal.specs.Refusal.{span, refusal}
use Rattle.text.specs.Scan.{skip, byte_at}
use Rattle.text.specs.Word.{bytes, spells}
use Rattle.refusal.specs.declared.fault.Fault.{Fault}
use Rattle.refusal.specs.declared.fault.Fault.TheVariants.{ExpectedFoundEnd, ExpectedFoundOther, MarkerGoesOn, TooDeep, ComparisonsMany, WarningsMany}
use Rattle.refusal.specs.declared.fault.Refusal.{Refusal}
use Rattle.refusal.specs.declared.place.Span.{Span}

-- every comparison as read, kept or ignored, with its span; two sides joined by `and` or `or`; a group in parentheses
pub data Tree : Type 0 where
  compared : Verdict → Span → Tree
  both either : Tree → Tree → Tree
  group : Tree → Tree

-- the comparison that is kept, if it is
abbrev pub kept_in : Verdict → List Comparison
kept_in (Kept c) = c ∷ []
kept_in (KeptWarned c) = c ∷ []
kept_in (Ignored kind) = []
kept_in (IgnoredTwice kind) = []

abbrev pub warning_of : ℕ → Span → Warning
warning_of kind x = record { kind = kind; span = x }

-- "Ignored, with one warning unless two are named, on the span from the left value's first byte to the right value's last"; what is kept with a
-- warning is an extra's literal "that can't be normalised", kind 4
abbrev pub warned_in : Verdict → Span → List Warning
warned_in (Kept c) x = []
warned_in (KeptWarned c) x = warning_of 4 x ∷ []
warned_in (Ignored kind) x = warning_of kind x ∷ []
warned_in (IgnoredTwice kind) x = warning_of kind x ∷ warning_of kind x ∷ []

-- the comparisons that a tree keeps, and the warnings that it gives, in the order of the line
unfoldable pub kept_of : Tree → List Comparison
kept_of (compared v x) = kept_in v
kept_of (both a b) = kept_of a ++ kept_of b
kept_of (either a b) = kept_of a ++ kept_of b
kept_of (group a) = kept_of a

unfoldable pub warned_of : Tree → List Warning
warned_of (compared v x) = warned_in v x
warned_of (both a b) = warned_of a ++ warned_of b
warned_of (either a b) = warned_of a ++ warned_of b
warned_of (group a) = warned_of a

-- a tree and where it ends, or the first fault
pub data Parsed : Type 0 where
  got : Tree → ℕ → Parsed
  fault : Refusal → Parsed

abbrev pub and_then : Parsed → (Tree → ℕ → Parsed) → Parsed
and_then (got t e) h = h t e
and_then (fault why) h = fault why

-- a fault whose span is "the comparison"
abbrev pub over : Fault → Span → Parsed
over f x = fault (record { fault = f; span = x })

-- "26: 65th kept comparison: the comparison", "27: 65th warning: its comparison", "27 before 26": a comparison after k kept ones and w warnings
unfoldable pub settled : Verdict → Span → ℕ → ℕ → ℕ → Parsed
settled v x next k w =
    cond (ltb max_comparisons (w + length (warned_in v x))) (over WarningsMany x)
    (cond (ltb max_comparisons (k + length (kept_in v))) (over ComparisonsMany x)
    (got (compared v x) next))

unfoldable pub settle : Result Found Refusal → ℕ → ℕ → Parsed
settle (Ok f) k w = settled f.verdict f.span f.next.at k w
settle (Err why) k w = fault why

-- whether a chain goes on, and from where
pub data Ahead : Type 0 where
  on : ℕ → Ahead
  off : Ahead

-- "After whitespace, a joining word is recognised only if the run up to the next whitespace is exactly `and` or `or`."
unfoldable pub word_ahead : List ℕ → List ℕ → ℕ → Ahead
word_ahead word s e =
    let from = skip is_space s e in
    let to = skip is_word_byte s from in
    cond (spells word s (span from (to - from))) (on to) off

abbrev pub and_word : List ℕ
and_word = bytes "and"

abbrev pub or_word : List ℕ
or_word = bytes "or"

-- "Every chain groups to the left.": to a tree t read up to e, further items are joined where `goes` goes on. f bounds how many there are: `and_of`
-- and `or_of` take the length of the line, and `Fuel` of `marker_laws` proves that no chain has more.
module _ (goes : ℕ → Ahead) (mk : Tree → Tree → Tree) (item : ℕ → ℕ → ℕ → Parsed) (k w : ℕ) where
  unfoldable pub more : ℕ → Tree → ℕ → Parsed
  more zero t e = got t e
  more (suc f) t e = elim (goes e) [
    | on d ↦ and_then (item d (k + length (kept_of t)) (w + length (warned_of t))) (λ u d'. more f (mk t u) d')
    | off ↦ got t e
  ]

unfoldable pub chain : ℕ → (ℕ → Ahead) → (Tree → Tree → Tree) → (ℕ → ℕ → ℕ → Parsed) → ℕ → ℕ → ℕ → Parsed
chain f goes mk item at k w = and_then (item at k w) (more goes mk item k w f)

-- a comparison, or a group, which `inner` reads from its `(`; here and below, after k kept comparisons and w warnings
unfoldable pub item_at : List ℕ → (ℕ → ℕ → ℕ → Parsed) → ℕ → ℕ → ℕ → Parsed
item_at s inner at k w = elim (eqb (byte_at s at) (code "(")) [ true ↦ inner at k w | false ↦ settle (found_at s at) k w ]

unfoldable pub item_of : List ℕ → (ℕ → ℕ → ℕ → Parsed) → ℕ → ℕ → ℕ → Parsed
item_of s inner at k w = item_at s inner (skip is_space s at) k w

-- "`and` binds tighter than `or`."
unfoldable pub and_of : List ℕ → (ℕ → ℕ → ℕ → Parsed) → ℕ → ℕ → ℕ → Parsed
and_of s inner = chain (length s) (word_ahead and_word s) both (item_of s inner)

unfoldable pub or_of : List ℕ → (ℕ → ℕ → ℕ → Parsed) → ℕ → ℕ → ℕ → Parsed
or_of s inner = chain (length s) (word_ahead or_word s) either (and_of s inner)

-- "22: expected byte, found the end: .. `(` opened", "23: expected byte, found another: it, 1"
abbrev pub closing : List ℕ → ℕ → Tree → ℕ → Parsed
closing s opened t e =
    cond (eqb (byte_at s e) (code ")")) (got (group t) (e + 1))
    (cond (ltb e (length s)) (fault (refusal ExpectedFoundOther e 1))
    (fault (refusal ExpectedFoundEnd opened 1)))

unfoldable pub closed : List ℕ → ℕ → Parsed → Parsed
closed s opened p = and_then p (λ t e. closing s opened t (skip is_space s e))

-- a group, with room for d open parentheses; "25: 17th open parenthesis: it, 1"
unfoldable pub group_at : List ℕ → ℕ → ℕ → ℕ → ℕ → Parsed
group_at s zero at k w = fault (refusal TooDeep at 1)
group_at s (suc d) at k w = closed s at (or_of s (group_at s d) (at + 1) k w)

-- "24: marker goes on: byte; length is the bytes after it"
abbrev pub only_end : List ℕ → Tree → ℕ → ℕ → Parsed
only_end s t e here = cond (ltb here (length s)) (fault (refusal MarkerGoesOn here (length s - here - 1))) (got t e)

unfoldable pub ending : List ℕ → Parsed → Parsed
ending s p = and_then p (λ t e. only_end s t e (skip is_space s e))

-- a marker from a place to the end of the line
unfoldable pub parse_from : List ℕ → ℕ → Parsed
parse_from s at = ending s (or_of s (group_at s max_depth) at 0 0)
