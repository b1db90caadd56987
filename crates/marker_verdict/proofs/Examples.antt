-- Worked examples of one comparison: document 01's cases and the corners of its rules. One table, one statement. Assumes nothing.
use mathlib.Core.List.{List, [], ◌∷◌, map}
use mathlib.Core.Path.{◌≡◌, refl}
use Prim.Native.Nat.{ℕ}
use Prim.Native.String.{String}
use Rattle.cursor.specs.Cursor.{cursor}
use Rattle.marker_kind.specs.declared.kind.ExtraKind.TheVariants.{Normal, Arbitrary}
use Rattle.marker_kind.specs.declared.kind.Key.TheVariants as Key
use Rattle.marker_kind.specs.declared.kind.Operator.TheVariants.{Equal, NotEqual, Less, GreaterEqual, Greater, Compatible, In, NotIn, Contains, NotContains}
use Rattle.marker_kind.specs.declared.kind.Sort.TheVariants as Sort
use Rattle.marker_value.specs.Operator.{later_symbol_in, symbol_in, symbol_at, in_at, not_at, word_at, operator_at}
use Rattle.marker_value.specs.Value.{last_name_in, string_name_in, version_name_in, named_at, quoted_at, value_at}
use Rattle.name.specs.Normal.{bad_at}
use Rattle.refusal.specs.Refusal.{span, refusal}
use Rattle.std.specs.Prelude.{Result, Ok, Err}
use Rattle.refusal.specs.declared.fault.Fault.{Fault}
use Rattle.refusal.specs.declared.fault.Refusal.{Refusal}
use Rattle.refusal.specs.declared.fault.Fault.TheVariants.{ValueMissing, ValueUnknown, OperatorUnknown, NotUnspaced, ExpectedFoundEnd, ExpectedFoundOther}
use Rattle.text.specs.Scan.{run, skip}
use Rattle.text.specs.Word.{bytes, begins_by}
use Rattle.version_parts.specs.Joined.{more_len, more}
use Rattle.version_parts.specs.Local.{segment_len, local_len}
use Rattle.version_parts.specs.Release.{epoch_len}
use Rattle.version.specs.Layout.{layout}
use Rattle.version_number.specs.Number.{value_from, number_len}
use Rattle.version_parts.specs.Part.{word_len, part_len, post_len}
use Rattle.version.specs.Reading.{pieces}
use Rattle.version.specs.Rules.{is_version, goes_with, all_versions, is_version_list}
use Rattle.marker_verdict.specs.Found.{found, found_at}
use Rattle.marker_verdict.specs.Verdict.{kept}
use Rattle.marker_verdict.specs.declared.found.Found.{Found}
use Rattle.marker_verdict.specs.declared.verdict.Verdict.{Verdict}
use Rattle.marker_verdict.specs.declared.verdict.Verdict.TheVariants.{Kept, KeptWarned, Ignored, IgnoredTwice}

-- a comparison over the whole text, of so many bytes
abbrev whole : ℕ → Verdict → Result Found Refusal
whole n verdict = Ok (found verdict (span 0 n) (cursor n))

abbrev fault : Fault → ℕ → ℕ → Result Found Refusal
fault why start len = Err (refusal why start len)

abbrev pub table : List (String × Result Found Refusal)
table =
    ("os_name=='a'", whole 12 (Kept (kept Sort.String Key.OsName Equal (span 10 1))))
    ∷ ("os_name == \"a'b\"", whole 16 (Kept (kept Sort.String Key.OsName Equal (span 12 3))))
    ∷ ("'a'=='b'", whole 8 (Ignored 5))
    ∷ ("python_version in 'abc'", whole 23 (IgnoredTwice 1))
    ∷ ("python_version not in '2.7 3.5'", whole 31 (Kept (kept Sort.VersionList Key.PythonVersion NotIn (span 23 7))))
    ∷ ("python_version in ''", whole 20 (Kept (kept Sort.VersionList Key.PythonVersion In (span 19 0))))
    ∷ ("python_version in '3.*'", whole 23 (IgnoredTwice 1))
    ∷ ("'x' in python_version", whole 21 (Ignored 1))
    ∷ ("python_version>='3.8'", whole 21 (Kept (kept Sort.Version Key.PythonVersion GreaterEqual (span 17 3))))
    ∷ ("'3.8' <= python_full_version", whole 28 (Kept (kept Sort.Version Key.PythonFullVersion GreaterEqual (span 1 3))))
    ∷ ("'3.8'>implementation_version", whole 28 (Kept (kept Sort.Version Key.ImplementationVersion Less (span 1 3))))
    ∷ ("python_version=='3.*'", whole 21 (Kept (kept Sort.Version Key.PythonVersion Equal (span 17 3))))
    ∷ ("'3.*'==python_version", whole 21 (Ignored 1))
    ∷ ("python_version>='3.*'", whole 21 (Ignored 1))
    ∷ ("python_version~='3'", whole 19 (Ignored 1))
    ∷ ("python_version~='3.8'", whole 21 (Kept (kept Sort.Version Key.PythonVersion Compatible (span 17 3))))
    ∷ ("python_version<'3+a'", whole 20 (Ignored 1))
    ∷ ("python_version==os_name", whole 23 (Ignored 1))
    ∷ ("os_name==extra", whole 14 (Ignored 2))
    ∷ ("extra==os_name", whole 14 (Ignored 4))
    ∷ ("os_name ~= 'a'", whole 14 (Ignored 3))
    ∷ ("'a' ~= os_name", whole 14 (Kept (kept Sort.String Key.OsName Compatible (span 1 1))))
    ∷ ("'a' in sys_platform", whole 19 (Kept (kept Sort.String Key.SysPlatform Contains (span 1 1))))
    ∷ ("'a' not in platform_machine", whole 27 (Kept (kept Sort.String Key.PlatformMachine NotContains (span 1 1))))
    ∷ ("'a'<platform_system", whole 19 (Kept (kept Sort.String Key.PlatformSystem Greater (span 1 1))))
    ∷ ("extra=='a_B'", whole 12 (Kept (kept (Sort.Extra Normal) Key.Extra Equal (span 8 3))))
    ∷ ("'a'!=extra", whole 10 (Kept (kept (Sort.Extra Normal) Key.Extra NotEqual (span 1 1))))
    ∷ ("extra==''", whole 9 (Kept (kept (Sort.Extra Normal) Key.Extra Equal (span 8 0))))
    ∷ ("extra=='a-'", whole 11 (KeptWarned (kept (Sort.Extra Arbitrary) Key.Extra Equal (span 8 2))))
    ∷ ("extra<'a'", whole 9 (Ignored 4))
    ∷ ("'a-' in extra", whole 13 (IgnoredTwice 4))
    ∷ ("os_name not in'x'", whole 17 (Kept (kept Sort.String Key.OsName NotIn (span 15 1))))
    ∷ ("os_name not'x'", fault NotUnspaced 11 1)
    ∷ ("os_name not", fault NotUnspaced 11 1)
    ∷ ("os_name not  ", fault ExpectedFoundEnd 13 1)
    ∷ ("os_name not i", fault ExpectedFoundEnd 13 1)
    ∷ ("os_name not ix", fault ExpectedFoundOther 13 1)
    ∷ ("os_name not on", fault ExpectedFoundOther 12 1)
    ∷ ("os_name inn 'a'", fault OperatorUnknown 8 3)
    ∷ ("os_name", fault OperatorUnknown 7 0)
    ∷ ("os_name==='a'", fault OperatorUnknown 7 3)
    ∷ ("os_name=='a", fault ExpectedFoundEnd 9 1)
    ∷ ("os_name==", fault ValueMissing 9 1)
    ∷ ("", fault ValueMissing 0 1)
    ∷ (")", fault ValueUnknown 0 0)
    ∷ ("OS_NAME=='a'", fault ValueUnknown 0 7)
    ∷ ("os.name=='a'", fault ValueUnknown 0 7)
    ∷ []

pub holds : map (λ e. found_at (bytes e.0) 0) table ≡ map (λ e. e.1) table
unfolding run skip begins_by bad_at more_len more epoch_len segment_len local_len layout value_from number_len word_len part_len post_len pieces is_version goes_with all_versions is_version_list later_symbol_in symbol_in symbol_at in_at not_at word_at operator_at last_name_in string_name_in version_name_in named_at quoted_at value_at found_at
holds = refl
