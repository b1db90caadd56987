-- "compared byte for byte": a fixed byte string against a part of a line.
use Rattle.std.specs.Prelude.{ℕ, Bool, true, false, ◌&&◌, List, [], ◌∷◌, eqb, length, drop}
use Prim.Native.Char.{code}
use Prim.Native.String as S
use Prim.Native.String.{String}
use Rattle.refusal.specs.declared.place.Span.{Span}

-- a quoted ASCII text as its bytes
abbrev pub bytes : String → List ℕ
bytes S.[] = []
bytes (S.◌∷◌ c s) = code c ∷ bytes s

-- whether a text begins with a word, its bytes being alike
unfoldable pub begins_by : (ℕ → ℕ → Bool) → List ℕ → List ℕ → Bool
begins_by alike [] s = true
begins_by alike (w ∷ word) [] = false
begins_by alike (w ∷ word) (b ∷ s) = alike b w && begins_by alike word s

abbrev pub begins : List ℕ → List ℕ → Bool
begins word s = begins_by eqb word s

-- whether a span of a line is a word
abbrev pub spells : List ℕ → List ℕ → Span → Bool
spells word s span = eqb span.len (length word) && begins word (drop span.start.0 s)
