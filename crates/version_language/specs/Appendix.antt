-- PEP 440's Appendix B as a regular expression, "case ignored", with "outer whitespace" and document 01's bound on numbers. Behind each line stands
-- the Appendix's own. It shares no grammar with the reading, which accepts exactly this language: proofs/Complete, proofs/Sound.
use Rattle.std.specs.Prelude.{◌≡◌, Bool, true, ◌&&◌, ◌||◌, not, List, [], ◌∷◌, ◌++◌, map, ◌⊎◌, ℕ, leb, ltb, eqb, length}
use Prim.Native.Char.{Char, code}
use Prim.Native.String.{String}
use Rattle.text.specs.Class.{is_space, is_digit, is_alnum, is_separator, small}
use Rattle.text.specs.Word.{bytes}
use Rattle.version_number.specs.Number.{value, largest}

infixr 40 ◌then◌
infixr 30 ◌or◌
-- regular expressions; `then` binds closer than `or`
pub data Regex : Type 0 where
  one : (ℕ → Bool) → Regex  -- `[..]`: a byte of a class
  word : String → Regex  -- a word of small letters, "case ignored"
  text : (List ℕ → Bool) → Regex  -- any text that passes a test
  ◌then◌ : Regex → Regex → Regex  -- one behind the other
  ◌or◌ : Regex → Regex → Regex  -- `|`
  opt : Regex → Regex  -- `?`
  many : Regex → Regex  -- `*`

-- a text that falls into any number of pieces, each of the language P
pub data Many (P : List ℕ → Type 0) : List ℕ → Type 0 where
  none : Many P []
  some : {s : List ℕ} (u v : List ℕ) → s ≡ u ++ v → P u → Many P v → Many P s

-- what an expression matches, from the first byte to the last
abbrev pub matches : Regex → List ℕ → Type 0
matches (one p) s = (b : ℕ) × (s ≡ b ∷ []) × (p b ≡ true)
matches (word w) s = map small s ≡ bytes w
matches (text t) s = t s ≡ true
matches (r then q) s = (u v : List ℕ) × (s ≡ u ++ v) × matches r u × matches q v
matches (r or q) s = matches r s ⊎ matches q s
matches (opt r) s = (s ≡ []) ⊎ matches r s
matches (many r) s = Many (matches r) s

-- each byte is of the class
abbrev pub all : (ℕ → Bool) → List ℕ → Bool
all p [] = true
all p (b ∷ s) = p b && all p s

abbrev pub sign : Char → Regex
sign c = one (λ b. eqb b (code c))

abbrev pub spaces : Regex
spaces = text (all is_space)  -- \s*

abbrev pub separator : Regex
separator = one is_separator  -- [-_\.]

-- "Each number (all-digit local segments too) is at most 18,446,744,073,709,551,615"
abbrev pub bounded : List ℕ → Bool
bounded s = leb (value s) largest

abbrev pub number : Regex
number = text (λ s. ltb 0 (length s) && all is_digit s && bounded s)  -- [0-9]+

abbrev pub segment : Regex
segment = text (λ s. ltb 0 (length s) && all is_alnum s && (not (all is_digit s) || bounded s))  -- [a-z0-9]+

-- pre-release
abbrev pub pre : Regex
pre =
    opt separator  -- [-_\.]?
    then (word "a" or word "b" or word "c" or word "rc" or word "alpha" or word "beta" or word "pre" or word "preview")  -- (a|b|c|rc|alpha|beta|pre|preview)
    then opt separator  -- [-_\.]?
    then opt number  -- (?P<pre_n>[0-9]+)?

-- post release
abbrev pub post : Regex
post =
    sign "-" then number  -- (?:-(?P<post_n1>[0-9]+)) |
    or opt separator  -- [-_\.]?
    then (word "post" or word "rev" or word "r")  -- (?P<post_l>post|rev|r)
    then opt separator  -- [-_\.]?
    then opt number  -- (?P<post_n2>[0-9]+)?

-- dev release
abbrev pub dev : Regex
dev = opt separator then word "dev" then opt separator then opt number  -- [-_\.]? (?P<dev_l>dev) [-_\.]? (?P<dev_n>[0-9]+)?

abbrev pub version_regex : Regex
version_regex =
    spaces  -- \s*
    then opt (word "v")  -- v?
    then opt (number then sign "!")  -- (?:(?P<epoch>[0-9]+)!)?  # epoch
    then number  -- (?P<release>[0-9]+
    then many (sign "." then number)  -- (?:\.[0-9]+)*)  # release segment
    then opt pre  -- (?P<pre> .. )?
    then opt post  -- (?P<post> .. )?
    then opt dev  -- (?P<dev> .. )?
    then opt (sign "+" then segment then many (separator then segment))  -- (?:\+(?P<local>[a-z0-9]+(?:[-_\.][a-z0-9]+)*))?  # local version
    then spaces  -- \s*

-- "A pattern is a version, or epoch and release only (`v` and outer whitespace allowed), then `.*`."
abbrev pub pattern_regex : Regex
pattern_regex =
    version_regex
    or spaces then opt (word "v") then opt (number then sign "!") then number then many (sign "." then number) then sign "." then sign "*" then spaces
