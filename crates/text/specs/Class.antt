-- The byte classes of document 01, as tests that compute.
use Rattle.std.specs.Prelude.{ℕ, ◌+◌, Bool, cond, ◌&&◌, ◌||◌, not, leb, ltb, eqb}
use Prim.Native.Char.{code}

-- from one byte to another, both counted
abbrev pub within : ℕ → ℕ → ℕ → Bool
within lo hi b = leb lo b && leb b hi

-- no "byte of 128 or more"
abbrev pub is_ascii : ℕ → Bool
is_ascii b = ltb b 128

-- "Whitespace is bytes 9 to 13 and 32."
abbrev pub is_space : ℕ → Bool
is_space b = within 9 13 b || eqb b 32

abbrev pub is_digit : ℕ → Bool
is_digit b = within (code "0") (code "9") b

-- "capitals become small"
abbrev pub is_capital : ℕ → Bool
is_capital b = within (code "A") (code "Z") b

-- .. : a capital is 32 below its small letter
abbrev pub small : ℕ → ℕ
small b = cond (is_capital b) (b + 32) b

abbrev pub is_letter : ℕ → Bool
is_letter b = within (code "a") (code "z") b || is_capital b

-- "A name is a letter or digit, .."
abbrev pub is_alnum : ℕ → Bool
is_alnum b = is_letter b || is_digit b

-- "each run of `.` `-` `_`"
abbrev pub is_separator : ℕ → Bool
is_separator b = eqb b (code ".") || eqb b (code "-") || eqb b (code "_")

-- ".. then all following letters, digits, `.`, `-`, `_`."
abbrev pub is_name_byte : ℕ → Bool
is_name_byte b = is_alnum b || is_separator b

-- "the run of `< = > ~ !`", and "specifiers if the byte is one of `<=>~!`"
abbrev pub is_operator_byte : ℕ → Bool
is_operator_byte b = eqb b (code "<") || eqb b (code "=") || eqb b (code ">") || eqb b (code "~") || eqb b (code "!")

-- "A value is quoted, up to the next same quote"
abbrev pub is_quote : ℕ → Bool
is_quote b = eqb b (code "'") || eqb b (code "\"")

-- "or a token up to whitespace or one of `> = < ! ~ )`"
abbrev pub is_token_byte : ℕ → Bool
is_token_byte b = not (is_space b || is_operator_byte b || eqb b (code ")"))

-- "the run up to the next whitespace"
abbrev pub is_word_byte : ℕ → Bool
is_word_byte b = not (is_space b)

-- "Operator token: if the next byte is a letter, up to whitespace or a quote"
abbrev pub is_operator_word_byte : ℕ → Bool
is_operator_word_byte b = not (is_space b || is_quote b)

-- "Specifiers are split at commas. Bare, they run to `;` or the end;"
abbrev pub is_bare_byte : ℕ → Bool
is_bare_byte b = not (eqb b (code ",") || eqb b (code ";"))

-- "in parentheses to `)`, where a `;` belongs to the text."
abbrev pub is_enclosed_byte : ℕ → Bool
is_enclosed_byte b = not (eqb b (code ",") || eqb b (code ")"))

-- any byte but the one given: what stands before "the next same quote"
abbrev pub is_other : ℕ → ℕ → Bool
is_other quote b = not (eqb b quote)
