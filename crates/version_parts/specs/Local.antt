-- "optional `+` local part": how many bytes it takes in front, 0 where it is not there.
use Rattle.std.specs.Prelude.{ℕ, ◌+◌, cond, ◌&&◌, List, ltb, eqb, drop}
use Prim.Native.Char.{code}
use Rattle.text.specs.Class.{is_digit, is_alnum, is_separator}
use Rattle.text.specs.Scan.{run, byte_at}
use Rattle.version_parts.specs.Joined.{more}
use Rattle.version_number.specs.Number.{number_len}

-- `[a-z0-9]+`, "all-digit local segments too" being numbers
unfoldable pub segment_len : List ℕ → ℕ
segment_len s = let n = run is_alnum s in let number = number_len s in cond (ltb (run is_digit s) n) n number

-- `(?:\+[a-z0-9]+(?:[-_\.][a-z0-9]+)*)?`
unfoldable pub local_len : List ℕ → ℕ
local_len s =
    let n = segment_len (drop 1 s) in
    let all = 1 + n + more is_separator segment_len (drop (1 + n) s) in
    cond (eqb (byte_at s 0) (code "+") && ltb 0 n) all 0
