-- Worked examples of the scans and of the normaliser, document 01's and PEP 503's: two tables, and one statement over them. Assumes nothing.
use mathlib.Core.Bool.{Bool}
use mathlib.Core.List.{List, [], ◌∷◌, map}
use mathlib.Core.Path.{◌≡◌, refl}
use Prim.Native.Nat.{ℕ}
use Prim.Native.Char.{code}
use Rattle.refusal.specs.Answer.{Answer, good, refused}
use Rattle.text.specs.Class.{is_ascii, is_space, is_digit, is_alnum, is_name_byte, is_operator_byte, is_token_byte, is_word_byte, is_operator_word_byte, is_bare_byte, is_enclosed_byte, is_other}
use Rattle.text.specs.Scan.{run, skip}
use Rattle.text.specs.Word.{bytes}
use Rattle.name.specs.Normal.{normal, bad_at}
use Rattle.name.specs.Normalise.{normalised}

-- a class, a text, a place, and where the run from there ends
abbrev pub scans : List ((ℕ → Bool) × List ℕ × ℕ × ℕ)
scans =
    (is_space, 8 ∷ 9 ∷ 10 ∷ 11 ∷ 12 ∷ 13 ∷ 32 ∷ 14 ∷ [], 1, 7)
    ∷ (is_space, 14 ∷ 9 ∷ [], 0, 0)
    ∷ (is_space, bytes " ", 5, 5)
    ∷ (is_ascii, 127 ∷ 128 ∷ [], 0, 1)
    ∷ (is_digit, bytes "a0189:", 1, 5)
    ∷ (is_alnum, bytes "aZ09_", 0, 4)
    ∷ (is_name_byte, bytes "foo-bar_.9 [", 0, 10)
    ∷ (is_operator_byte, bytes "<=>~!a", 0, 5)
    ∷ (is_token_byte, bytes "os_name=='a'", 0, 7)
    ∷ (is_token_byte, bytes "os_name)", 0, 7)
    ∷ (is_token_byte, bytes ")", 0, 0)
    ∷ (is_word_byte, bytes "and(os_name=='b') x", 0, 17)
    ∷ (is_operator_word_byte, bytes "in'x'", 0, 2)
    ∷ (is_operator_word_byte, bytes "not in", 0, 3)
    ∷ (is_bare_byte, bytes ">=1,<2;x", 0, 3)
    ∷ (is_bare_byte, bytes ">=1,<2;x", 4, 6)
    ∷ (is_enclosed_byte, bytes ">=1;<2)", 0, 6)
    ∷ (is_other (code "'"), bytes "a\"b'c", 0, 3)
    ∷ (is_other (code "'"), bytes "abc", 0, 3)
    ∷ []

-- a name, the output's room, the answer, and the normal form
abbrev pub names : List (List ℕ × ℕ × Answer ℕ × List ℕ)
names =
    (bytes "Foo._-Bar", 7, good 7, bytes "foo-bar")
    ∷ (bytes "Foo._-Bar", 6, refused 29 0 1, bytes "foo-bar")
    ∷ (bytes "friendly-bard", 64, good 13, bytes "friendly-bard")
    ∷ (bytes "Friendly-Bard", 64, good 13, bytes "friendly-bard")
    ∷ (bytes "FRIENDLY-BARD", 64, good 13, bytes "friendly-bard")
    ∷ (bytes "friendly.bard", 64, good 13, bytes "friendly-bard")
    ∷ (bytes "friendly_bard", 64, good 13, bytes "friendly-bard")
    ∷ (bytes "friendly--bard", 64, good 13, bytes "friendly-bard")
    ∷ (bytes "FrIeNdLy-._.-bArD", 64, good 13, bytes "friendly-bard")
    ∷ (bytes "", 0, good 0, bytes "")
    ∷ (bytes "A", 0, refused 29 0 1, bytes "a")
    ∷ (bytes "a-", 9, refused 28 1 1, bytes "a-")
    ∷ (bytes "-a", 9, refused 28 0 1, bytes "-a")
    ∷ (bytes "--", 9, refused 28 0 1, bytes "-")
    ∷ (bytes "a--", 0, refused 28 2 1, bytes "a-")
    ∷ (bytes "a$-", 9, refused 28 1 1, bytes "a$-")
    ∷ (bytes "a b", 0, refused 28 1 1, bytes "a b")
    ∷ (97 ∷ 128 ∷ [], 9, refused 28 1 1, 97 ∷ 128 ∷ [])
    ∷ []

pub holds : (map (λ e. skip e.0 e.1 e.2) scans ≡ map (λ e. e.3) scans)
    × (map (λ e. normalised e.0 e.1) names ≡ map (λ e. e.2) names)
    × (map (λ e. normal e.0) names ≡ map (λ e. e.3) names)
unfolding normal bad_at run skip
holds = (refl, refl, refl)
