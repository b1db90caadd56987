-- The pre, post and dev parts of a version, "with the Appendix's separators and optional numbers", "case ignored". Each definition gives how many
-- bytes the part in front takes, 0 where it is not there.
use Rattle.std.specs.Prelude.{ℕ, ◌+◌, Bool, true, false, cond, ◌&&◌, List, [], ◌∷◌, ltb, eqb, length, drop}
use Prim.Native.Char.{code}
use Rattle.text.specs.Class.{within, small, is_separator}
use Rattle.text.specs.Scan.{byte_at}
use Rattle.text.specs.Word.{bytes, begins_by}
use Rattle.version_number.specs.Number.{number_len}

-- "case ignored": whether a byte, made small, is a letter
abbrev pub is_letter_of : ℕ → ℕ → Bool
is_letter_of b letter = eqb (small b) letter

-- whether a word of small letters stands in front
abbrev pub says : List ℕ → List ℕ → Bool
says word s = begins_by is_letter_of word s

-- how long the first of the words is that stands in front
unfoldable pub word_len : List (List ℕ) → List ℕ → ℕ
word_len [] s = 0
word_len (w ∷ words) s = cond (says w s) (length w) (word_len words s)

-- whether each of some words starts with a small letter, so that none stands where no letter does
abbrev pub lettered : List ℕ → Bool
lettered [] = false
lettered (c ∷ word) = within (code "a") (code "z") c

abbrev pub all_lettered : List (List ℕ) → Bool
all_lettered [] = true
all_lettered (w ∷ words) = lettered w && all_lettered words

-- `[-_\.]?`
abbrev pub sep_len : List ℕ → ℕ
sep_len s = cond (is_separator (byte_at s 0)) 1 0

-- `[-_\.]?[0-9]*`
abbrev pub count_len : List ℕ → ℕ
count_len s = let k = sep_len s in k + number_len (drop k s)

-- `[-_\.]?(word)[-_\.]?[0-9]*`
unfoldable pub part_len : List (List ℕ) → List ℕ → ℕ
part_len words s =
    let k = sep_len s in
    let w = word_len words (drop k s) in
    let all = k + w + count_len (drop (k + w) s) in
    cond (ltb 0 w) all 0

-- "pre part (a, b, c, rc, alpha, beta, pre, preview)", a longer word before one that it begins with
abbrev pub pre_words : List (List ℕ)
pre_words = bytes "alpha" ∷ bytes "a" ∷ bytes "beta" ∷ bytes "b" ∷ bytes "c" ∷ bytes "rc" ∷ bytes "preview" ∷ bytes "pre" ∷ []

-- "post part (post, rev, r, or `-` and a number)"
abbrev pub post_words : List (List ℕ)
post_words = bytes "post" ∷ bytes "rev" ∷ bytes "r" ∷ []

-- "and dev part"
abbrev pub dev_words : List (List ℕ)
dev_words = bytes "dev" ∷ []

-- the three parts
abbrev pub pre_len : List ℕ → ℕ
pre_len s = part_len pre_words s

-- `(?:-([0-9]+)) | [-_\.]?(post|rev|r)[-_\.]?[0-9]*`
unfoldable pub post_len : List ℕ → ℕ
post_len s =
    let n = number_len (drop 1 s) in
    let word = part_len post_words s in
    cond (eqb (byte_at s 0) (code "-") && ltb 0 n) (1 + n) word

abbrev pub dev_len : List ℕ → ℕ
dev_len s = part_len dev_words s
