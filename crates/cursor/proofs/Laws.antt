-- The rules by which every scan and every move is proved, here and in the crates above. Assumes nothing.
use mathlib.Core.Path.{◌≡◌, ap}
use Prim.Native.Nat.{ℕ}
use Rattle.refusal.proofs.Numbers.{given_is}
use Rattle.text.proofs.Laws.{runs}
use Rattle.text.proofs.Words.{spelling}
use Rattle.cursor.specs.Cursor.{cursor}
use Rattle.cursor.specs.declared.cursor.Cursor.{Cursor}

-- a cursor is its place
pub cursor_is : (c : Cursor) (n : ℕ) → c.at ≡ n → c ≡ cursor n
cursor_is c n e = ap cursor e

pub ruleset scan = (runs, cursor_is, given_is)

-- the same, with the comparing of words
pub ruleset word = (spelling, scan)
