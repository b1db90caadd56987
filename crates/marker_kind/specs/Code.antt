-- The numbers of a kept comparison's sort, key and operator, each from 0 in document 01's order, and of a warning's kind; and what has a number.
use Rattle.std.specs.Prelude.{◌≡◌, ℕ, ◌≤◌, ◌<◌, ◌⊎◌, List, [], ◌∷◌, get_or, Result, MatchResult}
use Rattle.marker_kind.specs.declared.code.NoCode.{NoCode}
use Rattle.marker_kind.specs.declared.kind.ExtraKind.TheVariants.{Normal, Arbitrary}
use Rattle.marker_kind.specs.declared.kind.Key.{Key}
use Rattle.marker_kind.specs.declared.kind.Operator.{Operator}
use Rattle.marker_kind.specs.declared.kind.Sort.{Sort}
use Rattle.marker_kind.specs.declared.kind.WarningKind.{WarningKind}

-- "its sort (version, version list, string, or extra)", an extra's literal being normal or arbitrary
unfoldable pub sort_code : Sort → ℕ
sort_code Sort.Version = 0
sort_code Sort.VersionList = 1
sort_code Sort.String = 2
sort_code (Sort.Extra Normal) = 3
sort_code (Sort.Extra Arbitrary) = 4

-- "Versions: .. Strings: .. And `extra`."
unfoldable pub key_code : Key → ℕ
key_code Key.PythonVersion = 0
key_code Key.PythonFullVersion = 1
key_code Key.ImplementationVersion = 2
key_code Key.OsName = 3
key_code Key.SysPlatform = 4
key_code Key.PlatformRelease = 5
key_code Key.PlatformSystem = 6
key_code Key.PlatformVersion = 7
key_code Key.PlatformMachine = 8
key_code Key.PlatformPythonImplementation = 9
key_code Key.ImplementationName = 10
key_code Key.Extra = 11

-- "Known: `== != < <= > >= ~= in`", then `not in`, "contains", "not contains"
abbrev pub operator_code : Operator → ℕ
operator_code Operator.Equal = 0
operator_code Operator.NotEqual = 1
operator_code Operator.Less = 2
operator_code Operator.LessEqual = 3
operator_code Operator.Greater = 4
operator_code Operator.GreaterEqual = 5
operator_code Operator.Compatible = 6
operator_code Operator.In = 7
operator_code Operator.NotIn = 8
operator_code Operator.Contains = 9
operator_code Operator.NotContains = 10

-- "Kind 1: version key against no literal, or an invalid version, pattern or combination."; "Kind 2: string key against a name."; "Kind 3: string key, `~=`,
-- literal."; "Kind 4: `extra` against a name, or an operator other than `==`, `!=`." and "A literal that can't be normalised"; "Kind 5: two literals."
abbrev pub kind_number : WarningKind → ℕ
kind_number WarningKind.BadVersion = 1
kind_number WarningKind.StringToName = 2
kind_number WarningKind.StringCompatible = 3
kind_number WarningKind.BadExtra = 4
kind_number WarningKind.TwoLiterals = 5

-- each in the order of its number
abbrev pub sorts : List Sort
sorts = Sort.Version ∷ Sort.VersionList ∷ Sort.String ∷ Sort.Extra Normal ∷ Sort.Extra Arbitrary ∷ []

abbrev pub keys : List Key
keys =
    Key.PythonVersion ∷ Key.PythonFullVersion ∷ Key.ImplementationVersion ∷ Key.OsName ∷ Key.SysPlatform ∷ Key.PlatformRelease ∷ Key.PlatformSystem ∷
    Key.PlatformVersion ∷ Key.PlatformMachine ∷ Key.PlatformPythonImplementation ∷ Key.ImplementationName ∷ Key.Extra ∷ []

abbrev pub operators : List Operator
operators =
    Operator.Equal ∷ Operator.NotEqual ∷ Operator.Less ∷ Operator.LessEqual ∷ Operator.Greater ∷ Operator.GreaterEqual ∷ Operator.Compatible ∷
    Operator.In ∷ Operator.NotIn ∷ Operator.Contains ∷ Operator.NotContains ∷ []

-- back: a number that is no code is read as 0 is
unfoldable pub sort_of : ℕ → Sort
sort_of n = get_or sorts n Sort.Version

unfoldable pub key_of : ℕ → Key
key_of n = get_or keys n Key.PythonVersion

unfoldable pub operator_of : ℕ → Operator
operator_of n = get_or operators n Operator.Equal

-- what a number is the code of, or the number itself if it is no code
abbrev pub Sorts : ℕ → Result Sort NoCode → Type 0
Sorts n r = MatchResult r (λ sort. sort_code sort ≡ n) (λ e. (e.0 ≡ n) × (5 ≤ n))

abbrev pub Keys : ℕ → Result Key NoCode → Type 0
Keys n r = MatchResult r (λ key. key_code key ≡ n) (λ e. (e.0 ≡ n) × (12 ≤ n))

abbrev pub Operators : ℕ → Result Operator NoCode → Type 0
Operators n r = MatchResult r (λ op. operator_code op ≡ n) (λ e. (e.0 ≡ n) × (11 ≤ n))

abbrev pub Kinds : ℕ → Result WarningKind NoCode → Type 0
Kinds n r = MatchResult r (λ kind. kind_number kind ≡ n) (λ e. (e.0 ≡ n) × ((n ≡ 0) ⊎ (5 < n)))
