-- The laws of specifiers, which answer the loop that reads them. Assumes nothing.
use mathlib.Core.Path.{◌≡◌, refl, sym, ap, ◌∙◌}
use mathlib.Core.Bool.{Bool, true, false, cond}
use mathlib.Core.List.{List}
use Prim.Native.Nat.{ℕ, ◌+◌, ◌≤◌, zero-le}
use Prim.Native.Char.{code}
use native.Mathlib.Omega.{arith}
use lib.Dec.{eqb}
use lib.ListN.{length}
use Rattle.arrays.specs.Front.{onto}
use Rattle.cursor.proofs.Laws.{scan}
use Rattle.text.proofs.Places.{places, byte_lt}
use Rattle.text.proofs.Reach.{skip_from, skip_within}
use Rattle.refusal.specs.Answer.{Answer, good}
use Rattle.text.specs.Class.{is_space, is_operator_byte, is_bare_byte, is_enclosed_byte}
use Rattle.text.specs.Scan.{skip, byte_at}
use Rattle.refusal.specs.declared.fault.Fault.TheVariants.{SpecifiersMany}
use Rattle.spans.proofs.Kept.{list_few}
use Rattle.spans.specs.Flat.{flat, spans_onto}
use Rattle.cursor.specs.Limits.{max_list}
use Rattle.spans.specs.Listing.{Listing, ends, spans_in, outcome, counted}
use Rattle.line_specifiers.specs.Specifier.{item_at}
use Rattle.line_specifiers.specs.Specifiers.{texts_from, bare_at, specifiers_at}
use Rattle.line_specifiers.specs.declared.specifier.Form.TheVariants.{Bare, Enclosed}

-- a text ends within the line, and not before its start
module _ (s : List ℕ) (from stop : ℕ) (h : from ≤ length s) where
  pub bare_from : stop ≡ skip is_bare_byte s from → from ≤ stop
  bare_from e = rw e (skip_from is_bare_byte s from)

  pub bare_within : stop ≡ skip is_bare_byte s from → stop ≤ length s
  bare_within e = rw e (skip_within is_bare_byte s from h)

  pub enclosed_from : stop ≡ skip is_enclosed_byte s from → from ≤ stop
  enclosed_from e = rw e (skip_from is_enclosed_byte s from)

-- so does the place after a byte that was seen, and the whitespace behind it
module _ (s : List ℕ) (at b : ℕ) (r : Bool) (test : r ≡ eqb (byte_at s at) b) (hit : r ≡ true) (none : eqb 0 b ≡ false) where
  pub next_within : at + 1 ≤ length s
  next_within = omega (arith, byte_lt s at (λ (x : ℕ). eqb x b) none (sym test ∙ hit))

  pub spaces_within : (from : ℕ) → from ≡ skip is_space s (at + 1) → from ≤ length s
  spaces_within from e = rw e (skip_within is_space s (at + 1) next_within)

pub operator_within : (s : List ℕ) (at b : ℕ) (r : Bool) → b ≡ byte_at s at → r ≡ is_operator_byte b → r ≡ true → at ≤ length s
operator_within s at b r e test hit = omega (arith, byte_lt s at is_operator_byte refl (rw (← e) (sym test ∙ hit)))

pub specifiers_few : (s : List ℕ) (at : ℕ) → length (spans_in (specifiers_at s at)) ≤ max_list
unfolding specifiers_at bare_at spans_in
specifiers_few s at = go (eqb (byte_at s at) (code "(")) (is_operator_byte (byte_at s at))
  where
    go : (t u : Bool) → length (spans_in (cond t (texts_from s (Enclosed at) (skip is_space s (at + 1))) (cond u (texts_from s Bare at) (ends at)))) ≤ max_list
    go true u = list_few SpecifiersMany (item_at s (Enclosed at)) max_list true (skip is_space s (at + 1))
    go false true = list_few SpecifiersMany (item_at s Bare) max_list true at
    go false false = zero-le

-- by what stands at the place
module _ (s : List ℕ) (at : ℕ) where
  module _ (b : ℕ) (r : Bool) (byte : b ≡ byte_at s at) (test : r ≡ is_operator_byte b) where
    operator : is_operator_byte (byte_at s at) ≡ r
    operator = ap is_operator_byte (sym byte) ∙ sym test

    bare_is : r ≡ true → texts_from s Bare at ≡ bare_at s at
    unfolding bare_at
    bare_is h = rw (operator, h)

    none_is : r ≡ false → ends at ≡ bare_at s at
    unfolding bare_at
    none_is h = rw (operator, h)

    pub bare_answer : (z : Answer (ℕ × ℕ)) → r ≡ true → z ≡ counted (texts_from s Bare at) → z ≡ counted (bare_at s at)
    bare_answer z h e = e ∙ ap counted (bare_is h)

    pub bare_array : (list old : List ℕ) → r ≡ true → list ≡ spans_onto (spans_in (texts_from s Bare at)) old → list ≡ spans_onto (spans_in (bare_at s at)) old
    bare_array list old h e = e ∙ ap (λ (x : Listing). spans_onto (spans_in x) old) (bare_is h)

    pub none_answer : r ≡ false → good (0, at) ≡ counted (bare_at s at)
    unfolding outcome spans_in
    none_answer h = ap counted (none_is h)

    pub none_array : (old : List ℕ) → r ≡ false → old ≡ spans_onto (spans_in (bare_at s at)) old
    unfolding spans_in flat onto
    none_array old h = ap (λ (x : Listing). spans_onto (spans_in x) old) (none_is h)

  module _ (r : Bool) (test : r ≡ eqb (byte_at s at) (code "(")) where
    enclosed_is : (from : ℕ) → r ≡ true → from ≡ skip is_space s (at + 1) → texts_from s (Enclosed at) from ≡ specifiers_at s at
    unfolding specifiers_at
    enclosed_is from h e = rw (← test, h, e)

    other_is : r ≡ false → bare_at s at ≡ specifiers_at s at
    unfolding specifiers_at
    other_is h = rw (← test, h)

    pub enclosed_answer : (from : ℕ) (z : Answer (ℕ × ℕ)) → r ≡ true → from ≡ skip is_space s (at + 1) → z ≡ counted (texts_from s (Enclosed at) from) → z ≡ counted (specifiers_at s at)
    enclosed_answer from z h f e = e ∙ ap counted (enclosed_is from h f)

    pub enclosed_array : (from : ℕ) (list old : List ℕ) → r ≡ true → from ≡ skip is_space s (at + 1) → list ≡ spans_onto (spans_in (texts_from s (Enclosed at) from)) old → list ≡ spans_onto (spans_in (specifiers_at s at)) old
    enclosed_array from list old h f e = e ∙ ap (λ (x : Listing). spans_onto (spans_in x) old) (enclosed_is from h f)

    pub other_answer : (z : Answer (ℕ × ℕ)) → r ≡ false → z ≡ counted (bare_at s at) → z ≡ counted (specifiers_at s at)
    other_answer z h e = e ∙ ap counted (other_is h)

    pub other_array : (list old : List ℕ) → r ≡ false → list ≡ spans_onto (spans_in (bare_at s at)) old → list ≡ spans_onto (spans_in (specifiers_at s at)) old
    other_array list old h e = e ∙ ap (λ (x : Listing). spans_onto (spans_in x) old) (other_is h)

pub ruleset texts = (bare_from, bare_within, enclosed_from, next_within, spaces_within, operator_within, places, scan)

pub ruleset listing = (bare_answer, bare_array, none_answer, none_array, enclosed_answer, enclosed_array, other_answer, other_array, texts)
