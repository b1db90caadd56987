-- "A kept comparison holds its sort .., key, operator and literal span"; what is ignored warns. What two values and an operator come to, by their sorts.
use Rattle.std.specs.Prelude.{ℕ, Bool, false, cond, ◌&&◌, List, leb, ltb, eqb, length, take, drop}
use Rattle.marker_kind.specs.Code.{operator_code}
use Rattle.marker_kind.specs.declared.kind.Comparison.{Comparison}
use Rattle.marker_kind.specs.declared.kind.ExtraKind.TheVariants.{Normal, Arbitrary}
use Rattle.marker_kind.specs.declared.kind.Key.{Key}
use Rattle.marker_kind.specs.declared.kind.Operator.{Operator}
use Rattle.marker_kind.specs.declared.kind.Operator.TheVariants.{Equal, NotEqual, Less, LessEqual, Greater, GreaterEqual, Compatible, In, NotIn, Contains, NotContains}
use Rattle.marker_kind.specs.declared.kind.Sort.{Sort}
use Rattle.marker_value.specs.declared.value.Value.{Value}
use Rattle.name.specs.Normal.{bad_at}
use Rattle.refusal.specs.declared.place.Span.{Span}
use Rattle.text.specs.Class.{within}
use Rattle.version.specs.Rules.{is_version, goes_with, is_version_list}
use Rattle.version_operator.specs.declared.operator.Operator.TheVariants as Pep440
use Rattle.marker_verdict.specs.declared.verdict.Verdict.{Verdict}
use Rattle.marker_verdict.specs.declared.verdict.Verdict.TheVariants.{Kept, KeptWarned, Ignored, IgnoredTwice}

-- the bytes of a span
abbrev pub text_in : List ℕ → Span → List ℕ
text_in s at = take at.len (drop at.start.0 s)

-- "the operator is mirrored: `<` with `>`, `<=` with `>=`, `in` with "contains", `not in` with "not contains"; the others stay"
abbrev pub mirror : Operator → Operator
mirror Equal = Equal
mirror NotEqual = NotEqual
mirror Less = Greater
mirror LessEqual = GreaterEqual
mirror Greater = Less
mirror GreaterEqual = LessEqual
mirror Compatible = Compatible
mirror In = Contains
mirror NotIn = NotContains
mirror Contains = In
mirror NotContains = NotIn

-- whether a version or pattern may go with a marker's operator: the version rules decide, and know neither `in` nor "contains"
abbrev pub may_go_with : Operator → List ℕ → Bool
may_go_with Equal t = goes_with Pep440.Equal t
may_go_with NotEqual t = goes_with Pep440.NotEqual t
may_go_with Less t = goes_with Pep440.Less t
may_go_with LessEqual t = goes_with Pep440.LessEqual t
may_go_with Greater t = goes_with Pep440.Greater t
may_go_with GreaterEqual t = goes_with Pep440.GreaterEqual t
may_go_with Compatible t = goes_with Pep440.Compatible t
may_go_with In t = false
may_go_with NotIn t = false
may_go_with Contains t = false
may_go_with NotContains t = false

-- "A kept comparison holds its sort .., key, operator and literal span"
abbrev pub kept : Sort → Key → Operator → Span → Comparison
kept sort key op at = record { sort = sort; key = key; operator = op; literal = at }

-- `==` or `!=`
abbrev pub is_equality : Operator → Bool
is_equality op = leb (operator_code op) 1

-- `~=`
abbrev pub is_compatible : Operator → Bool
is_compatible op = eqb (operator_code op) 6

-- `in` or `not in`
abbrev pub is_list : Operator → Bool
is_list op = within 7 8 (operator_code op)

-- "Kind 1: version key against .. an invalid version, pattern or combination. `in` and `not in` take whitespace-separated versions, none allowed; a bad
-- list warns twice."
abbrev pub version_verdict : List ℕ → Key → Operator → Span → Verdict
version_verdict s key op at =
    cond (is_list op) (cond (is_version_list (text_in s at)) (Kept (kept Sort.VersionList key op at)) (IgnoredTwice 1))
    (cond (may_go_with op (text_in s at)) (Kept (kept Sort.Version key op at)) (Ignored 1))

-- "On the left no `.*` is allowed, and "contains" or "not contains" is kind 1."
abbrev pub mirrored_verdict : List ℕ → Key → Operator → Span → Verdict
mirrored_verdict s key op at =
    cond (is_version (text_in s at) && may_go_with (mirror op) (text_in s at)) (Kept (kept Sort.Version key (mirror op) at)) (Ignored 1)

-- "Kind 3: string key, `~=`, literal."
abbrev pub string_verdict : Key → Operator → Span → Verdict
string_verdict key op at = cond (is_compatible op) (Ignored 3) (Kept (kept Sort.String key op at))

-- "A literal that can't be normalised"
abbrev pub bad_name : List ℕ → Bool
bad_name t = ltb (bad_at t) (length t)

-- "Kind 4: `extra` against .. an operator other than `==`, `!=`. A literal that can't be normalised also warns, first, and is kept as an arbitrary name if
-- the operator is good." "`extra` isn't mirrored."
abbrev pub extra_verdict : List ℕ → Operator → Span → Verdict
extra_verdict s op at =
    cond (is_equality op) (cond (bad_name (text_in s at)) (KeptWarned (kept (Sort.Extra Arbitrary) Key.Extra op at)) (Kept (kept (Sort.Extra Normal) Key.Extra op at)))
    (cond (bad_name (text_in s at)) (IgnoredTwice 4) (Ignored 4))

-- "Kind 1: version key against no literal"
abbrev pub version_left : List ℕ → Key → Operator → Value → Verdict
version_left s key op (Value.Version other) = Ignored 1
version_left s key op (Value.String other) = Ignored 1
version_left s key op Value.Extra = Ignored 1
version_left s key op (Value.Quoted at) = version_verdict s key op at

-- "Kind 2: string key against a name."
abbrev pub string_left : Key → Operator → Value → Verdict
string_left key op (Value.Version other) = Ignored 2
string_left key op (Value.String other) = Ignored 2
string_left key op Value.Extra = Ignored 2
string_left key op (Value.Quoted at) = string_verdict key op at

-- "Kind 4: `extra` against a name"
abbrev pub extra_left : List ℕ → Operator → Value → Verdict
extra_left s op (Value.Version other) = Ignored 4
extra_left s op (Value.String other) = Ignored 4
extra_left s op Value.Extra = Ignored 4
extra_left s op (Value.Quoted at) = extra_verdict s op at

-- "With the literal on the left the operator is mirrored"; of `~=` "With the literal first it is kept."; "Kind 5: two literals."
abbrev pub quoted_left : List ℕ → Span → Operator → Value → Verdict
quoted_left s at op (Value.Version key) = mirrored_verdict s key op at
quoted_left s at op (Value.String key) = Kept (kept Sort.String key (mirror op) at)
quoted_left s at op Value.Extra = extra_verdict s op at
quoted_left s at op (Value.Quoted other) = Ignored 5

-- the left value decides
abbrev pub verdict : List ℕ → Value → Operator → Value → Verdict
verdict s (Value.Version key) op right = version_left s key op right
verdict s (Value.String key) op right = string_left key op right
verdict s Value.Extra op right = extra_left s op right
verdict s (Value.Quoted at) op right = quoted_left s at op right
