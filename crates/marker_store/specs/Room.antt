-- The arrays that hold what is read of a marker: how many numbers a comparison and a warning have, and how many of each there is room for.
use Rattle.std.specs.Prelude.{ℕ, ◌*◌}
use Rattle.cursor.specs.Limits.{max_comparisons}

-- "A kept comparison holds its sort .., key, operator and literal span (inside the quotes)": five numbers, each at its place
abbrev pub comparison_width : ℕ
comparison_width = 5

abbrev pub sort_place : ℕ
sort_place = 0

abbrev pub key_place : ℕ
key_place = 1

abbrev pub operator_place : ℕ
operator_place = 2

abbrev pub literal_start : ℕ
literal_start = 3

abbrev pub literal_length : ℕ
literal_length = 4

-- "one warning .. on the span from the left value's first byte to the right value's last": its kind and that span, three numbers
abbrev pub warning_width : ℕ
warning_width = 3

abbrev pub kind_place : ℕ
kind_place = 0

abbrev pub span_start : ℕ
span_start = 1

abbrev pub span_length : ℕ
span_length = 2

abbrev pub comparisons_room : ℕ
comparisons_room = comparison_width * max_comparisons

abbrev pub warnings_room : ℕ
warnings_room = warning_width * max_comparisons
