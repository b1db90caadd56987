-- Document 01's normal form of a name, and its first bad byte.
use Rattle.std.specs.Prelude.{ℕ, ◌-◌, Bool, cond, ◌&&◌, List, [], ◌∷◌, ltb, length}
use Prim.Native.Char.{code}
use Rattle.text.specs.Class.{small, is_separator, is_name_byte}
use Rattle.text.specs.Scan.{run, byte_at}

-- "capitals become small; each run of `.` `-` `_` becomes one `-`": a byte of a run, and any other
abbrev pub form : ℕ → ℕ
form b = cond (is_separator b) (code "-") (small b)

-- whether a text's first byte merges with the next: a separator that another follows, so that of a run one stays
abbrev pub merges : List ℕ → Bool
merges s = is_separator (byte_at s 0) && is_separator (byte_at s 1)

-- "Empty gives empty."
unfoldable pub normal : List ℕ → List ℕ
normal [] = []
normal (b ∷ s) = cond (merges (b ∷ s)) (normal s) (form b ∷ normal s)

-- "such a run first or last, or any other byte, is 28": "first bad byte, or last byte if that is `.` `-` `_`"; the length where nothing is bad
unfoldable pub bad_at : List ℕ → ℕ
bad_at s =
    cond (is_separator (byte_at s 0)) 0
    (cond (ltb (run is_name_byte s) (length s)) (run is_name_byte s)
    (cond (is_separator (byte_at s (length s - 1))) (length s - 1)
    (length s)))
