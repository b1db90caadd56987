-- Worked examples: document 01's, the corners of DECISIONS and of the source. A table, and one statement over it. Assumes nothing.
use mathlib.Core.List.{List, [], ◌∷◌, ◌++◌, map}
use mathlib.Core.Path.{◌≡◌, refl}
use Prim.Native.Nat.{ℕ}
use Rattle.refusal.specs.Answer.{Answer, good, refused}
use Rattle.refusal.specs.Refusal.{span}
use Rattle.text.specs.Scan.{run, skip}
use Rattle.text.specs.Word.{bytes}
use Rattle.refusal.specs.declared.place.Span.{Span}
use Rattle.line_url.specs.Url.{closes_at, stops_at, first_from, url_end, goes_on, url_at}

-- a line, a place, the span of the URL after it and where reading goes on
abbrev pub table : List (List ℕ × ℕ × Answer (Span × ℕ))
table =
    (bytes "a @ http://x; os_name=='a'", 3, good (span 4 9, 13))
    ∷ (bytes "a @ ;", 3, good (span 4 1, 5))
    ∷ (bytes "a @ x;os_name=='a'", 3, good (span 4 14, 18))
    ∷ (bytes "a @ x #y", 3, good (span 4 1, 6))
    ∷ (bytes "a @x ; os_name=='a'", 3, good (span 3 1, 5))
    ∷ (bytes "a @", 3, refused 13 3 0)
    ∷ (bytes "a @  ", 3, refused 13 5 0)
    ∷ (10 ∷ 13 ∷ [], 0, refused 13 2 0)
    ∷ (bytes "x", 0, good (span 0 1, 1))
    ∷ (bytes "x y", 0, good (span 0 3, 3))
    ∷ (bytes "../a b  c", 0, good (span 0 9, 9))
    ∷ (bytes "x y ;z", 0, good (span 0 3, 4))
    ∷ (bytes "x y   # z", 0, good (span 0 3, 4))
    ∷ (bytes "x  y  ", 0, good (span 0 4, 5))
    ∷ (bytes "x; y", 0, good (span 0 2, 2))
    ∷ (bytes "x# y", 0, good (span 0 2, 2))
    ∷ (bytes "x; ;", 0, good (span 0 2, 2))
    ∷ (bytes "x;", 0, good (span 0 2, 2))
    ∷ (bytes "x#y z", 0, good (span 0 5, 5))
    ∷ (bytes "# y", 0, good (span 0 1, 1))
    ∷ (bytes "x" ++ (10 ∷ bytes "y"), 0, good (span 0 1, 2))
    ∷ (bytes "x" ++ (13 ∷ 10 ∷ bytes "y"), 0, good (span 0 1, 2))
    ∷ (bytes "x " ++ (10 ∷ bytes "y"), 0, good (span 0 2, 3))
    ∷ (bytes "x " ++ (10 ∷ bytes ";"), 0, good (span 0 1, 2))
    ∷ (bytes "x;" ++ (10 ∷ bytes "y"), 0, good (span 0 2, 2))
    ∷ (bytes "x" ++ (9 ∷ bytes "y"), 0, good (span 0 3, 3))
    ∷ (bytes "x" ++ (11 ∷ 12 ∷ []), 0, good (span 0 1, 2))
    ∷ []

pub holds : map (λ e. url_at e.0 e.1) table ≡ map (λ e. e.2) table
unfolding run skip closes_at stops_at first_from url_end goes_on url_at
holds = refl
