-- "optional `v`; optional number and `!`; numbers joined by `.`": how many bytes each takes in front, 0 where it is not there. (The numbers behind
-- the first are `more is_dot number_len`.)
use Rattle.std.specs.Prelude.{ℕ, ◌+◌, Bool, cond, ◌&&◌, List, ltb, eqb}
use Prim.Native.Char.{code}
use Rattle.text.specs.Class.{small}
use Rattle.text.specs.Scan.{byte_at}
use Rattle.version_number.specs.Number.{number_len}

-- `v?`
abbrev pub v_len : List ℕ → ℕ
v_len s = cond (eqb (small (byte_at s 0)) (code "v")) 1 0

-- `(?:[0-9]+!)?`
unfoldable pub epoch_len : List ℕ → ℕ
epoch_len s = let n = number_len s in cond (ltb 0 n && eqb (byte_at s n) (code "!")) (n + 1) 0

-- "numbers joined by `.`"
abbrev pub is_dot : ℕ → Bool
is_dot b = eqb b (code ".")
