use Rattle.std.proofs.Common.{◌≡◌, ℕ, Bool}
use Rattle.text.specs.Scan.{skip}
use Rattle.cursor.proofs.cursor.Cursor.take.Given as goal

-- the run that is left ends where all of it does
abbrev pub invariant-loop-at : goal.invariant-loop-at
invariant-loop-at g l =
    (p : ℕ → Bool) → ((b : ℕ) → (r : Bool) → goal.F-post g l.class b r → r ≡ p b)
    → skip p l.line l.at ≡ skip p l.line l.fn.self.at
