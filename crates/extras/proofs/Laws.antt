-- The laws of the two doors: what they make of the check, and of the reading after it. Assumes nothing.
use mathlib.Core.Path.{◌≡◌, refl, sym, ap, ◌∙◌}
use mathlib.Core.List.{List}
use Prim.Native.Nat.{ℕ, ◌≤◌}
use lib.ListN.{length, replicate}
use Rattle.std.specs.Prelude.{Result, Ok}
use Rattle.cursor.proofs.Checks.{checked_good}
use Rattle.refusal.specs.Answer.{Answer, good, passes, on_good}
use Rattle.cursor.specs.Check.{checked}
use Rattle.refusal.specs.Refusal.{given, told}
use Rattle.refusal.specs.declared.fault.Refusal.{Refusal}
use Rattle.refusal.specs.declared.place.Span.{Span}
use Rattle.spans.proofs.Doors.{read_count, read_list, read_few, read_loaded, refused_list}
use Rattle.spans.specs.Flat.{spans_onto, loaded, list_numbers, padded}
use Rattle.cursor.specs.Limits.{max_list}
use Rattle.spans.specs.Listing.{spans_in, list_in, counted}
use Rattle.line_extras.proofs.Laws.{extras_few}
use Rattle.extras.specs.Entry.{entry, filled, counts, written}
use Rattle.extras.specs.declared.entry.Extras.{Extras}
use Rattle.line_extras.specs.Extras.{extras_at}

-- a refusal leaves the lent array as it was
pub unwritten : (s : List ℕ) (why : Refusal) (out : List ℕ) → given why ≡ entry s → out ≡ written (entry s) out
unfolding given
unwritten s why out e = ap (λ (a : Answer (List Span)). written a out) e

-- so many extras fit
pub count_few : (s : List ℕ) (n at : ℕ) → good (n, at) ≡ counted (extras_at s 0) → n ≤ max_list
count_few s n at read = read_few (extras_at s 0) n at read (extras_few s 0)

-- where the check passes, what is read is the answer
module _ (s : List ℕ) (k : Result (Unit {0}) Refusal) (made : told k ≡ checked s passes) (passed : k ≡ Ok tt) where
  entry_good : list_in (extras_at s 0) ≡ entry s
  entry_good = checked_good s k (list_in (extras_at s 0)) made (list_in (extras_at s 0)) passed refl

  pub entry_refused : (why : Refusal) → given why ≡ counted (extras_at s 0) → given why ≡ entry s
  entry_refused why e = refused_list (extras_at s 0) why e ∙ entry_good

  module _ (n at : ℕ) (read : good (n, at) ≡ counted (extras_at s 0)) where
    entry_is : entry s ≡ good (spans_in (extras_at s 0))
    entry_is = sym entry_good ∙ read_list (extras_at s 0) n at read

    count_is : n ≡ length (spans_in (extras_at s 0))
    count_is = read_count (extras_at s 0) n at read

    pub counts_read : good n ≡ counts (entry s)
    counts_read = rw (entry_is, ← count_is)

    module _ (list : List ℕ) (f : list ≡ spans_onto (spans_in (extras_at s 0)) (replicate list_numbers 0)) where
      all_is : loaded n list ≡ spans_in (extras_at s 0)
      all_is = read_loaded (extras_at s 0) n at read list (extras_few s 0) f

      pub filled_read : (l : List Span) → l ≡ padded (loaded n list) → ◌≡◌ {A = Answer Extras} (good (record { extras = l; count = n })) (on_good filled (entry s))
      filled_read l g = rw (entry_is, g, all_is, count_is)

      pub written_read : (out old : List ℕ) → out ≡ spans_onto (loaded n list) old → out ≡ written (entry s) old
      written_read out old g = rw (entry_is, g, all_is)
