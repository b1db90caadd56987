use Rattle.std.proofs.Common.{length, ◌-◌, ◌≡◌, ℕ, Bool, List, false}
use Rattle.version_number.specs.Place.{past}
use Rattle.version_parts.specs.Joined.{more}
use Rattle.version_parts.proofs.joined.items_end.Given as goal

-- the items that are left end where all of them do
abbrev pub invariant-loop-at : goal.invariant-loop-at
invariant-loop-at g l =
    (p : ℕ → Bool) → (len : List ℕ → ℕ) → p 0 ≡ false
    → ((b : ℕ) → (r : Bool) → goal.J-post g l.joins b r → r ≡ p b)
    → ((at : ℕ) → (r : ℕ) → goal.I-post g l.item_end at r → r ≡ past len l.text at)
    → past (more p len) l.text l.at ≡ past (more p len) l.text l.fn.first

abbrev pub decreases-loop-at : goal.decreases-loop-at
decreases-loop-at g l = length l.text - l.at
