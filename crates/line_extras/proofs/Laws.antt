-- The laws of one extra, and of the extras at a place, which answer the loop that reads them. Assumes nothing.
use mathlib.Core.Path.{◌≡◌, sym, ◌∙◌, ap}
use mathlib.Core.Bool.{Bool, true, false, cond}
use mathlib.Core.List.{List}
use Prim.Native.Nat.{ℕ, ◌+◌, ◌<◌, ◌≤◌, zero-le}
use native.Mathlib.Omega.{arith}
use lib.ListN.{length}
use Rattle.cursor.proofs.Laws.{scan}
use Rattle.text.proofs.Laws.{skip_on}
use Rattle.text.proofs.Reach.{skip_from}
use Rattle.text.specs.Class.{is_alnum, is_name_byte, is_space}
use Rattle.text.specs.Scan.{skip, byte_at}
use Rattle.spans.proofs.Kept.{list_few}
use Prim.Native.Char.{code}
use lib.Dec.{eqb}
use Rattle.refusal.specs.Answer.{Answer, good}
use Rattle.refusal.specs.declared.fault.Fault.TheVariants.{ExtrasMany}
use Rattle.spans.specs.Flat.{flat}
use Rattle.cursor.specs.Limits.{max_list}
use Rattle.spans.specs.Listing.{Listing, read_onto, ends, spans_in, outcome, counted}
use Rattle.line_extras.specs.Extra.{item_at}
use Rattle.line_extras.specs.Extras.{extras_from, extras_at}
use Rattle.arrays.specs.Front.{onto}

-- an extra that starts has a byte
pub extra_some : (s : List ℕ) (at stop : ℕ) (r : Bool) → at < length s → r ≡ is_alnum (byte_at s at) → r ≡ true → stop ≡ skip is_name_byte s at → at < stop
extra_some s at stop r h test hit told =
    let start : is_alnum (byte_at s at) ≡ true = sym test ∙ hit in
    let name : is_name_byte (byte_at s at) ≡ true = rw start in
    rw told (omega (arith, skip_on is_name_byte s at 0 h name, skip_from is_name_byte s (at + 1)))

-- by whether a bracket stands there
module _ (s : List ℕ) (at : ℕ) (r : Bool) (test : r ≡ eqb (byte_at s at) (code "[")) where
  module _ (from : ℕ) (inside : from ≡ skip is_space s (at + 1)) (h : r ≡ true) where
    here : extras_from s at from ≡ extras_at s at
    unfolding extras_at
    here = rw (← test, h, inside)

    pub here_answer : (z : Answer (ℕ × ℕ)) → z ≡ counted (extras_from s at from) → z ≡ counted (extras_at s at)
    here_answer z e = e ∙ ap counted here

    pub here_array : (list old : List ℕ) → list ≡ read_onto (extras_from s at from) old → list ≡ read_onto (extras_at s at) old
    here_array list old e = e ∙ ap (λ (x : Listing). read_onto x old) here

  module _ (h : r ≡ false) where
    none : ends at ≡ extras_at s at
    unfolding extras_at
    none = rw (← test, h)

    pub none_answer : good (0, at) ≡ counted (extras_at s at)
    unfolding outcome spans_in
    none_answer = ap counted none

    pub none_array : (old : List ℕ) → old ≡ read_onto (extras_at s at) old
    unfolding spans_in flat onto
    none_array old = ap (λ (x : Listing). read_onto x old) none

pub extras_few : (s : List ℕ) (at : ℕ) → length (spans_in (extras_at s at)) ≤ max_list
unfolding extras_at spans_in
extras_few s at = go (eqb (byte_at s at) (code "["))
  where
    go : (t : Bool) → length (spans_in (cond t (extras_from s at (skip is_space s (at + 1))) (ends at))) ≤ max_list
    go true = list_few ExtrasMany (item_at s at) max_list true (skip is_space s (at + 1))
    go false = zero-le

pub ruleset listing = (here_answer, here_array, none_answer, none_array, scan)
