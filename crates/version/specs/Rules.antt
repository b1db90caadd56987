-- What may be asked of a text: is it a version, a pattern, a specifier, does it go with an operator, is it a list of versions.
use Rattle.std.specs.Prelude.{ℕ, ◌-◌, Bool, true, false, not, ◌&&◌, ◌||◌, List, [], ◌∷◌, Option, Some, None, drop}
use Rattle.text.specs.Class.{is_space, is_operator_byte}
use Rattle.refusal.specs.Refusal.{span}
use Rattle.text.specs.Scan.{skip}
use Rattle.version_operator.specs.Operator.{operator_in, takes}
use Rattle.version_operator.specs.declared.operator.Operator.{Operator}
use Rattle.version.specs.Layout.{layout, is_version_at, is_starred_at, has_two, has_local}
use Rattle.version.specs.Reading.{pieces}
use Rattle.version.specs.declared.layout.Layout.{Layout}

-- whether a text is a version
unfoldable pub is_version : List ℕ → Bool
is_version s = is_version_at (layout s) s

-- "A pattern is a version, or epoch and release only .. then `.*`."
unfoldable pub is_pattern : List ℕ → Bool
is_pattern s = is_version_at (layout s) s || is_starred_at (layout s) s

-- a version with an operator
abbrev pub suits : Operator → Layout → Bool
suits op l = ((takes op).local || not (has_local l)) && (has_two l || not (takes op).two)

-- the combination rule: a version or pattern that may go with the operator
unfoldable pub goes_with : Operator → List ℕ → Bool
goes_with op s = is_version_at (layout s) s && suits op (layout s) || is_starred_at (layout s) s && (takes op).star

-- what stands behind an operator may go with it, and nothing goes without one
abbrev pub suits_token : Option Operator → List ℕ → Bool
suits_token (Some op) s = goes_with op s
suits_token None s = false

-- "A text is whitespace, operator, whitespace, version or pattern, whitespace. An empty text is 14."
unfoldable pub is_specifier : List ℕ → Bool
is_specifier s =
    let from = skip is_space s 0 in
    let to = skip is_operator_byte s from in
    suits_token (operator_in s (span from (to - from))) (drop to s)

-- no byte
abbrev pub blank : List ℕ → Bool
blank [] = true
blank (b ∷ s) = false

-- each piece between whitespace is a version or empty
unfoldable pub all_versions : List (List ℕ) → Bool
all_versions [] = true
all_versions (piece ∷ pieces) = (blank piece || is_version piece) && all_versions pieces

-- "whitespace-separated versions, none allowed"
unfoldable pub is_version_list : List ℕ → Bool
is_version_list s = all_versions (pieces is_space s)
