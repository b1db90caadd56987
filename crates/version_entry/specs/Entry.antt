-- What an entry answers of a text by itself.
use Rattle.std.specs.Prelude.{ℕ, Bool, cond, List, length}
use Rattle.refusal.specs.Answer.{Answer, refused, passes}
use Rattle.cursor.specs.Check.{checked}

-- "a version, pattern or specifier alone 1, 2, then 14 over all of it"
abbrev pub text_answer : Bool → List ℕ → Answer (Unit {0})
text_answer ok s = checked s (cond ok passes (refused 14 0 (length s)))
