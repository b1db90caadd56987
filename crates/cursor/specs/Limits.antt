-- The limits of what is read, in numbers; in the code they are constants of the cursor's type.
use Rattle.std.specs.Prelude.{ℕ}

-- "1: over 4,096 bytes"
abbrev pub max_line : ℕ
max_line = 4096

-- "25: 17th open parenthesis"
abbrev pub max_depth : ℕ
max_depth = 16

-- "26: 65th kept comparison", "27: 65th warning", "31: comparison count over 64"
abbrev pub max_comparisons : ℕ
max_comparisons = 64

-- "12: 33rd extra", "16: 33rd specifier"
abbrev pub max_list : ℕ
max_list = 32
