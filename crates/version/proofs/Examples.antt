-- Worked examples: PEP 440's own versions, patterns and specifiers of each form and of normalisation, and document 01's, good and bad. Tables, and
-- one statement over them. Assumes nothing.
use mathlib.Core.Bool.{Bool, true, false}
use mathlib.Core.List.{List, [], ◌∷◌, ◌++◌, map}
use mathlib.Core.Option.{Option, none, some}
use mathlib.Core.Path.{◌≡◌, refl}
use Prim.Native.Nat.{ℕ}
use lib.ListN.{replicate}
use Prim.Native.Char.{code}
use Prim.Native.String.{String}
use Rattle.text.specs.Scan.{run, skip}
use Rattle.text.specs.Word.{bytes, begins_by}
use Rattle.version_parts.specs.Joined.{more_len, more}
use Rattle.version_parts.specs.Local.{segment_len, local_len}
use Rattle.version_number.specs.Number.{value_from, number_len}
use Rattle.version_parts.specs.Part.{word_len, part_len, post_len}
use Rattle.version_parts.specs.Release.{epoch_len}
use Rattle.version_operator.specs.Operator.{operator_among}
use Rattle.version.specs.Layout.{layout}
use Rattle.version.specs.Reading.{alpha, beta, candidate, numeric, lettered, Version, numbers_from, pieces, reading}
use Rattle.version.specs.Rules.{is_version, is_pattern, goes_with, is_specifier, all_versions, is_version_list}

abbrev pub good : List String
good =
    "0.9" ∷ "0.9.1" ∷ "1.0" ∷ "1.0.15" ∷ "1.1.dev1" ∷ "2012.4" ∷ "1.0a1" ∷ "1.0b2.post345.dev456" ∷ "1.0rc1.dev456" ∷ "1.0+abc.5" ∷ "1!1.0"
    ∷ "1.1RC1" ∷ "00" ∷ "09000" ∷ "1.1.a1" ∷ "1.1-a1" ∷ "1.1a.1" ∷ "1.1alpha1" ∷ "1.1beta2" ∷ "1.1c3" ∷ "1.2a" ∷ "1.2-post2" ∷ "1.2.post.2" ∷ "1.0-r4"
    ∷ "1.2.post" ∷ "1.0-1" ∷ "1.2-dev2" ∷ "1.2.dev" ∷ "1.0+ubuntu-1" ∷ "v1.0" ∷ "V1.0" ∷ "1.0\n" ∷ " \t1.0 " ∷ "1.0.dev456" ∷ "1.0a2.dev456" ∷ "1.0a12"
    ∷ "1.0.post456.dev34" ∷ "1.0.15+G.1_00" ∷ "1a." ∷ "1dev-" ∷ "1a--1" ∷ "1ar1" ∷ "1preview_7" ∷ "1PRE" ∷ "1.0rev" ∷ "1alpha.post" ∷ "18446744073709551615"
    ∷ "1+018446744073709551615" ∷ "1+18446744073709551616a" ∷ "1a0000000000000000000000007" ∷ []

abbrev pub bad : List String
bad =
    "" ∷ " " ∷ "v" ∷ "a1" ∷ "1.0.*" ∷ "1..0" ∷ "1." ∷ ".1" ∷ "1!" ∷ "!1" ∷ "1!!1" ∷ "v v1" ∷ "vv1" ∷ "1 .0" ∷ "1.0+" ∷ "1.0+a+b" ∷ "1.0+a." ∷ "1.0+-" ∷ "1.0++1"
    ∷ "1a1a1" ∷ "1dev1post1" ∷ "1post1a1" ∷ "1al" ∷ "1revc" ∷ "1prev" ∷ "1r-c" ∷ "1--1" ∷ "1_1" ∷ "1a---1" ∷ "abc" ∷ "1.0 2" ∷ "18446744073709551616"
    ∷ "1.18446744073709551616" ∷ "18446744073709551616!1" ∷ "1a18446744073709551616" ∷ "1-18446744073709551616" ∷ "1+18446744073709551616" ∷ "1+a.18446744073709551616"
    ∷ "1\u{1c}" ∷ "==1" ∷ []

-- a pattern, and whether it is one
abbrev pub patterns : List (String × Bool)
patterns =
    ("1.*", true) ∷ ("1.1.*", true) ∷ (" v1!2.3.* ", true) ∷ ("1.1", true) ∷ ("1.1a1.*", false) ∷ ("1.post1.*", false) ∷ ("1.*.1", false) ∷ ("*", false) ∷ (".*", false)
    ∷ ("1.* *", false) ∷ ("1*", false) ∷ ("1. *", false) ∷ ("1+a.*", false) ∷ ("18446744073709551616.*", false) ∷ []

-- a specifier, and whether it is one
abbrev pub specifiers : List (String × Bool)
specifiers =
    ("~= 0.9", true) ∷ ("!= 1.3.4.*", true) ∷ ("~=2.2", true) ∷ ("~= 2.2.post3", true) ∷ ("~= 1.4.5a4", true) ∷ ("~= 1", false) ∷ ("~= 1a1", false) ∷ ("== 1.1.post1", true)
    ∷ ("== 1.1.*", true) ∷ ("== 1.1a1.*", false) ∷ ("===foobar", false) ∷ ("=== 1.0", true) ∷ ("===1.0+a", true) ∷ ("=== 1.*", false) ∷ (">=1.7", true) ∷ (">=1.*", false)
    ∷ ("<1.0+a", false) ∷ ("~=1.0+a", false) ∷ ("==1.0+a", true) ∷ ("!=1.0+a", true) ∷ (" < 2 ", true) ∷ ("<=\t2", true) ∷ ("=1", false) ∷ ("====1", false) ∷ ("<>1", false)
    ∷ ("1.0", false) ∷ ("", false) ∷ ("==", false) ∷ ("> = 1", false) ∷ ("==1,", false) ∷ []

-- a list of versions, and whether it is one
abbrev pub lists : List (String × Bool)
lists = ("", true) ∷ ("  ", true) ∷ ("2.7", true) ∷ (" 2.7 3.5\t3.6 ", true) ∷ ("abc", false) ∷ ("2.7, 3.5", false) ∷ ("2.7 3.*", false) ∷ []

abbrev plain : ℕ → List ℕ → Version
plain epoch release = record { epoch = epoch; release = release; pre = none; post = none; dev = none; local = [] }

-- what a text is read as
abbrev pub readings : List (String × Option (Version × Bool))
readings =
    ("1.0", some (plain 0 (1 ∷ 0 ∷ []), false))
    ∷ ("1!2.03.*", some (plain 1 (2 ∷ 3 ∷ []), true))
    ∷ ("1a-1", some (record { epoch = 0; release = 1 ∷ []; pre = some (alpha, 1); post = none; dev = none; local = [] }, false))
    ∷ ("1a--1", some (record { epoch = 0; release = 1 ∷ []; pre = some (alpha, 0); post = some 1; dev = none; local = [] }, false))
    ∷ ("1.0b2.post345.dev456", some (record { epoch = 0; release = 1 ∷ 0 ∷ []; pre = some (beta, 2); post = some 345; dev = some 456; local = [] }, false))
    ∷ (
      "v7!1RC.rev_8-DEV+Ab.0012-3c",
      some (
        record {
          epoch = 7;
          release = 1 ∷ [];
          pre = some (candidate, 0);
          post = some 8;
          dev = some 0;
          local = lettered (bytes "ab") ∷ numeric 12 ∷ lettered (bytes "3c") ∷ [];
        },
        false,
      ),
    )
    ∷ ("1.0a1.*", none)
    ∷ ("abc", none)
    ∷ []

-- four thousand zeros are free
abbrev pub zeros : List ℕ
zeros = bytes "1." ++ replicate 4000 (code "0") ++ bytes "18446744073709551615"

pub holds : (map (λ (s : String). is_version (bytes s)) good ≡ map (λ (s : String). true) good)
    × (map (λ (s : String). is_version (bytes s)) bad ≡ map (λ (s : String). false) bad)
    × (map (λ e. is_pattern (bytes e.0)) patterns ≡ map (λ e. e.1) patterns)
    × (map (λ e. is_specifier (bytes e.0)) specifiers ≡ map (λ e. e.1) specifiers)
    × (map (λ e. is_version_list (bytes e.0)) lists ≡ map (λ e. e.1) lists)
    × (map (λ e. reading (bytes e.0)) readings ≡ map (λ e. e.1) readings)
    × (is_version zeros ≡ true)
unfolding run skip begins_by more_len more epoch_len segment_len local_len layout value_from number_len word_len part_len post_len numbers_from pieces reading is_version is_pattern operator_among goes_with is_specifier all_versions is_version_list
holds = (refl, refl, refl, refl, refl, refl, refl)
