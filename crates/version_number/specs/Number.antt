-- A number of a version.
use Rattle.std.specs.Prelude.{ℕ, ◌+◌, ◌-◌, ◌*◌, cond, List, [], ◌∷◌, leb}
use Prim.Native.Char.{code}
use Rattle.text.specs.Class.{is_digit}
use Rattle.text.specs.Scan.{run}

-- what a digit stands for
abbrev pub digit_value : ℕ → ℕ
digit_value b = b - code "0"

-- what the digits in front say behind digits that said v
unfoldable pub value_from : ℕ → List ℕ → ℕ
value_from v [] = v
value_from v (b ∷ s) = let more = value_from (10 * v + digit_value b) s in cond (is_digit b) more v

-- what the digits in front say
abbrev pub value : List ℕ → ℕ
value s = value_from 0 s

-- "Each number .. is at most 18,446,744,073,709,551,615"
abbrev pub largest : ℕ
largest = 18_446_744_073_709_551_615

-- "else the text is no version": how many bytes the number in front takes, 0 where none is there or one that is too large
unfoldable pub number_len : List ℕ → ℕ
number_len s = cond (leb (value s) largest) (run is_digit s) 0
