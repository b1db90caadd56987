-- Refusals 1 and 2, which come first.
use Rattle.std.specs.Prelude.{ℕ, cond, List, ltb, length}
use Rattle.refusal.specs.Answer.{Answer, refused}
use Rattle.text.specs.Class.{is_ascii}
use Rattle.cursor.specs.Limits.{max_line}
use Rattle.text.specs.Scan.{run}

-- "2: a byte of 128 or more: first such, 1"; else what comes next
abbrev pub only_ascii : {A : Type 0} → List ℕ → Answer A → Answer A
only_ascii s next = cond (ltb (run is_ascii s) (length s)) (refused 2 (run is_ascii s) 1) next

-- "The line, extras and marker entries refuse first 1, then 2, then the first fault met"; "1: over 4,096 bytes: 4096, 1"
abbrev pub checked : {A : Type 0} → List ℕ → Answer A → Answer A
checked s next = cond (ltb max_line (length s)) (refused 1 max_line 1) (only_ascii s next)
