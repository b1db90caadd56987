-- For the typed door: what is loaded from the numbers is what they stand for. Assumes nothing.
use mathlib.Core.Path.{◌≡◌, refl, sym, ap, ◌∙◌}
use mathlib.Core.List.{List, map}
use Prim.Native.Nat.{ℕ, ◌+◌, ◌<◌}
use native.Mathlib.Omega.{arith}
use lib.ListN.{length, set}
use Rattle.std.specs.List.{range_with_len}
use Rattle.std.specs.Prelude.{Ok, Err}
use Rattle.std.proofs.lemmas.List.FromFn.{length-map-range_with_len, map-range_with_len_more, fill_by_all}
use Rattle.arrays.specs.Front.{pad}
use Rattle.marker.specs.Answer.{answered, marker_answer}
use Rattle.marker_steps.specs.Grammar.{Parsed, got, fault, parse_from}
use Rattle.marker_steps.specs.Marking.{Marking, marking, comparisons_as, warnings_as}
use Rattle.marker_steps.specs.declared.part.Part.{Part}
use Rattle.marker_steps.specs.inner.Steps.{raw_of, State, shows, whole_of}
use Rattle.marker_store.proofs.Held.{pad-set, comparison_at, warning_at}
use Rattle.marker_store.specs.Numbers.{comparison_in, warning_in}
use Rattle.marker_store.specs.Room.{comparisons_room, warnings_room}
use Rattle.marker_store.specs.declared.sheet.Sheet.{Sheet}
use Rattle.cursor.specs.Limits.{max_comparisons}
use Rattle.marker_typed.specs.Lists.{no_comparison, no_warning, lists_of}
use Rattle.marker_typed.specs.inner.Gather.{gathered}
use Rattle.refusal.specs.Answer.{good, on_good}

-- the loop that fills: one entry more
pub loading : {A : Type 0} (f : ℕ → A) (d : A) (i : ℕ) {l : List A} {x : A} → l ≡ pad max_comparisons d (map f (range_with_len 0 i)) → x ≡ f i → i < max_comparisons →
    set l i x ≡ pad max_comparisons d (map f (range_with_len 0 (i + 1)))
loading f d i {l} {x} el ex h =
    let n = length-map-range_with_len f 0 i in
    rw (el, ex, map-range_with_len_more f 0 i i (omega arith))
    (ap (λ (k : ℕ). set (pad max_comparisons d (map f (range_with_len 0 i))) k (f i)) (sym n) ∙ pad-set max_comparisons d (map f (range_with_len 0 i)) (f i) (omega arith))

-- what is gathered is the lists that the sheet holds
pub gathers : (r : Sheet) (m : Marking) → r ≡ raw_of m → gathered r ≡ lists_of m
unfolding raw_of gathered lists_of
gathers r m e =
    rw (
      e,
      ← fill_by_all (comparison_in (pad comparisons_room 0 (comparisons_as m))) m.comparisons (length m.comparisons) no_comparison refl (λ i h. sym (comparison_at m.comparisons _ i no_comparison h)),
      ← fill_by_all (warning_in (pad warnings_room 0 (warnings_as m))) m.warnings (length m.warnings) no_warning refl (λ i h. sym (warning_at m.warnings _ i no_warning h)),
    )

-- and those are what the marker comes to
pub gathered_answer : (s : List ℕ) (at : ℕ) (r : Sheet) (p : Part) → shows (Ok p) r ≡ whole_of (parse_from s at) → good (gathered r) ≡ on_good lists_of (marker_answer s at)
unfolding whole_of
gathered_answer s at r p h = go (parse_from s at) h
  where
    go : (q : Parsed) → shows (Ok p) r ≡ whole_of q → good (gathered r) ≡ on_good lists_of (answered q)
    go (got t e) g = ap good (gathers r (marking t) (ap (λ (z : State). z.raw) g))
    go (fault why) g =
        let z : Ok p ≡ Err why = ap (λ (z : State). z.part) g in
        let y : ◌≡◌ {A = ℕ} 0 1 = cc in absurd (omega arith)
