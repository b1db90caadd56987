use Rattle.std.proofs.Common.{◌≡◌, ℕ, ◌-◌, Bool, true, eqb, Result}
use Rattle.cursor.specs.Limits.{max_list}
use Rattle.refusal.specs.declared.fault.Refusal.{Refusal}
use Rattle.spans.proofs.Kept.{Kept}
use Rattle.spans.specs.Listing.{list_from}
use Rattle.spans.specs.declared.item.Item.{Item}
use Rattle.spans.proofs.listing.read_list.Given as goal

-- the next item may be read, and of the list that any definition says which the reader meets, what is read stands in the array
abbrev pub invariant-loop-n : goal.invariant-loop-n
invariant-loop-n g l = record {
  callable : goal.F-pre g l.fn.item (eqb l.n 0) l.at;
  kept : (read : Bool → ℕ → Result Item Refusal) → ((fresh : Bool) (at : ℕ) (r : _) → goal.F-post g l.fn.item fresh at r → r ≡ read fresh at)
      → Kept (list_from l.many read max_list true l.from) (list_from l.many read (max_list - l.n) (eqb l.n 0) l.at) l.initial.list l.list l.n;
}
