-- What has a number is found again by it, so no two share one. Assumes nothing.
use mathlib.Core.Path.{◌≡◌, refl, sym}
use Prim.Native.Nat.{ℕ}
use lib.ListN.{get_or-eq_default}
use Rattle.std.specs.Prelude.{Result, Ok, Err}
use Rattle.std.specs.Result.{result_unwrap_or}
use Rattle.marker_kind.specs.Code.{sort_code, key_code, operator_code, sorts, keys, operators, sort_of, key_of, operator_of, Sorts, Keys, Operators}
use Rattle.marker_kind.specs.declared.code.NoCode.{NoCode}
use Rattle.marker_kind.specs.declared.kind.ExtraKind.TheVariants.{Normal, Arbitrary}
use Rattle.marker_kind.specs.declared.kind.Key.{Key}
use Rattle.marker_kind.specs.declared.kind.Operator.{Operator}
use Rattle.marker_kind.specs.declared.kind.Sort.{Sort}

pub sort_own : (x : Sort) → sort_of (sort_code x) ≡ x
unfolding sort_of sort_code
sort_own Sort.Version = refl
sort_own Sort.VersionList = refl
sort_own Sort.String = refl
sort_own (Sort.Extra Normal) = refl
sort_own (Sort.Extra Arbitrary) = refl

pub key_own : (x : Key) → key_of (key_code x) ≡ x
unfolding key_of key_code
key_own Key.PythonVersion = refl
key_own Key.PythonFullVersion = refl
key_own Key.ImplementationVersion = refl
key_own Key.OsName = refl
key_own Key.SysPlatform = refl
key_own Key.PlatformRelease = refl
key_own Key.PlatformSystem = refl
key_own Key.PlatformVersion = refl
key_own Key.PlatformMachine = refl
key_own Key.PlatformPythonImplementation = refl
key_own Key.ImplementationName = refl
key_own Key.Extra = refl

pub operator_own : (x : Operator) → operator_of (operator_code x) ≡ x
unfolding operator_of
operator_own Operator.Equal = refl
operator_own Operator.NotEqual = refl
operator_own Operator.Less = refl
operator_own Operator.LessEqual = refl
operator_own Operator.Greater = refl
operator_own Operator.GreaterEqual = refl
operator_own Operator.Compatible = refl
operator_own Operator.In = refl
operator_own Operator.NotIn = refl
operator_own Operator.Contains = refl
operator_own Operator.NotContains = refl

-- a number that is no code is read as 0 is
pub sort_read : (n : ℕ) (r : Result Sort NoCode) → Sorts n r → result_unwrap_or r Sort.Version ≡ sort_of n
sort_read n (Ok x) e = rw (← e) (sym (sort_own x))
sort_read n (Err why) e = unfold sort_of in sym (get_or-eq_default sorts Sort.Version e.1)

pub key_read : (n : ℕ) (r : Result Key NoCode) → Keys n r → result_unwrap_or r Key.PythonVersion ≡ key_of n
key_read n (Ok x) e = rw (← e) (sym (key_own x))
key_read n (Err why) e = unfold key_of in sym (get_or-eq_default keys Key.PythonVersion e.1)

pub operator_read : (n : ℕ) (r : Result Operator NoCode) → Operators n r → result_unwrap_or r Operator.Equal ≡ operator_of n
operator_read n (Ok x) e = rw (← e) (sym (operator_own x))
operator_read n (Err why) e = unfold operator_of in sym (get_or-eq_default operators Operator.Equal e.1)
