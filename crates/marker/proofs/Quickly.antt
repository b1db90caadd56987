-- For the quick door: the front of each array is the lists' numbers, and what is copied is that. Assumes nothing.
use Prim.Native.Nat.{ℕ, ◌*◌, ◌≤◌}
use mathlib.Core.List.{List}
use mathlib.Core.Path.{◌≡◌, refl, sym, ap, ◌∙◌}
use native.Mathlib.Omega.{arith}
use lib.ListN.{length, take}
use lib.Seq.{take_at}
use Rattle.arrays.specs.Front.{onto, pad}
use Rattle.marker.specs.Answer.{answered, marker_answer, listed_of, marking_from, counts_of}
use Rattle.marker_cycle.proofs.Chain.{Sane}
use Rattle.marker_cycle.proofs.Whole.{parse_sane, program_short}
use Rattle.marker_steps.specs.Grammar.{Parsed, got, fault, parse_from}
use Rattle.marker_steps.specs.Marking.{Marking, marking, comparisons_as, warnings_as}
use Rattle.marker_steps.specs.declared.part.Part.{Part}
use Rattle.marker_steps.specs.inner.Steps.{raw_of, State, shows, whole_of}
use Rattle.marker_store.specs.declared.sheet.Sheet.{Sheet}
use Rattle.std.specs.Prelude.{Ok, Err}
use Rattle.marker_store.proofs.Held.{pad_length, comparisons_length, warnings_length}
use Rattle.marker_store.specs.Numbers.{all_numbers}
use Rattle.marker_store.specs.Room.{comparison_width, warning_width, comparisons_room, warnings_room}
use Rattle.cursor.specs.Limits.{max_comparisons}
use Rattle.program_check.specs.Rules.{max_words}
use Rattle.marker_store.specs.declared.marks.Counts.{Counts}
use Rattle.refusal.specs.Answer.{Answer, good, on_good}
use Rattle.refusal.specs.Refusal.{given}
use Rattle.refusal.specs.declared.fault.Refusal.{Refusal}

-- the sheet holds m, of an accepted marker
pub record Marks (s : List ℕ) (at : ℕ) (r : Sheet) : Type 0 where
  pub m : Marking
  pub answer : marker_answer s at ≡ good m
  pub is : r ≡ raw_of m
  pub kept_few : length m.comparisons ≤ max_comparisons
  pub warned_few : length m.warnings ≤ max_comparisons
  pub words_few : length m.words ≤ max_words

pub marks_of : (s : List ℕ) (at : ℕ) (r : Sheet) (p : Part) → shows (Ok p) r ≡ whole_of (parse_from s at) → Marks s at r
unfolding whole_of
marks_of s at r p h = go (parse_from s at) refl (parse_sane s at) h
  where
    go : (q : Parsed) → parse_from s at ≡ q → Sane at 0 0 q → shows (Ok p) r ≡ whole_of q → Marks s at r
    go (got t d) eq sn g = record {
      m = marking t;
      answer = ap answered eq;
      is = ap (λ (z : State). z.raw) g;
      kept_few = omega (arith, sn.1);
      warned_few = omega (arith, sn.2);
      words_few = program_short t (omega (arith, sn.1));
    }
    go (fault why) eq sn g =
        let z : Ok p ≡ Err why = ap (λ (z : State). z.part) g in
        let y : ◌≡◌ {A = ℕ} 0 1 = cc in absurd (omega arith)

module _ (s : List ℕ) (at : ℕ) (r : Sheet) (marks : Marks s at r) where
  counts : r.counts ≡ counts_of marks.m
  unfolding raw_of
  counts = ap (λ (q : Sheet). q.counts) marks.is

  comps_length : length (comparisons_as marks.m) ≡ comparison_width * r.counts.kept
  comps_length = comparisons_length marks.m.comparisons ∙ ap (λ (k : Counts). comparison_width * k.kept) (sym counts)

  warns_length : length (warnings_as marks.m) ≡ warning_width * r.counts.warned
  warns_length = warnings_length marks.m.warnings ∙ ap (λ (k : Counts). warning_width * k.warned) (sym counts)

  words_length : length marks.m.words ≡ r.counts.words
  words_length = ap (λ (k : Counts). k.words) (sym counts)

  -- the counts have room in the arrays, which are as long as they were
  pub kept_room : (r.counts.kept ≤ max_comparisons) × (length r.comparisons ≡ comparisons_room)
  unfolding raw_of
  kept_room =
      let few : r.counts.kept ≤ max_comparisons = rw counts marks.kept_few in
      (few, ap (λ (q : Sheet). length q.comparisons) marks.is ∙ pad_length comparisons_room (comparisons_as marks.m) (omega (arith, comps_length)))

  pub warned_room : (r.counts.warned ≤ max_comparisons) × (length r.warnings ≡ warnings_room)
  unfolding raw_of
  warned_room =
      let few : r.counts.warned ≤ max_comparisons = rw counts marks.warned_few in
      (few, ap (λ (q : Sheet). length q.warnings) marks.is ∙ pad_length warnings_room (warnings_as marks.m) (omega (arith, warns_length)))

  pub words_room : (r.counts.words ≤ max_words) × (length r.words ≡ max_words)
  unfolding raw_of
  words_room =
      let few : r.counts.words ≤ max_words = rw counts marks.words_few in
      (few, ap (λ (q : Sheet). length q.words) marks.is ∙ pad_length max_words marks.m.words (omega (arith, words_length)))

  -- what was copied is the numbers of the lists
  copied : (f : Marking → List ℕ) (k room : ℕ) (held old : List ℕ) {out : List ℕ} → held ≡ pad room 0 (f marks.m) → length (f marks.m) ≡ k →
      out ≡ onto (take k held) old → out ≡ onto (f (marking_from s at)) old
  copied f k room held old is long e =
      let front : take k held ≡ f marks.m = ap (take k) is ∙ take_at (f marks.m) _ k long in
      e ∙ ap (λ (l : List ℕ). onto l old) (front ∙ sym (ap (λ (a : Answer Marking). f (listed_of a)) marks.answer))

  pub comps_copied : (old : List ℕ) {out : List ℕ} → out ≡ onto (take (comparison_width * r.counts.kept) r.comparisons) old → out ≡ onto (comparisons_as (marking_from s at)) old
  unfolding raw_of
  comps_copied old e = copied comparisons_as _ comparisons_room _ old (ap (λ (q : Sheet). q.comparisons) marks.is) comps_length e

  pub warns_copied : (old : List ℕ) {out : List ℕ} → out ≡ onto (take (warning_width * r.counts.warned) r.warnings) old → out ≡ onto (warnings_as (marking_from s at)) old
  unfolding raw_of
  warns_copied old e = copied warnings_as _ warnings_room _ old (ap (λ (q : Sheet). q.warnings) marks.is) warns_length e

  pub words_copied : (old : List ℕ) {out : List ℕ} → out ≡ onto (take r.counts.words r.words) old → out ≡ onto (marking_from s at).words old
  unfolding raw_of
  words_copied old e = copied (λ m. m.words) _ max_words _ old (ap (λ (q : Sheet). q.words) marks.is) words_length e

  pub counted : good r.counts ≡ on_good counts_of (marker_answer s at)
  counted = ap good counts ∙ sym (ap (on_good counts_of) marks.answer)

-- a refused answer leaves the arrays as they were
module _ (a : Answer Marking) (why : Refusal) (e : a ≡ given why) where
  pub refused_comps : (old : List ℕ) → old ≡ onto (comparisons_as (listed_of a)) old
  unfolding given all_numbers onto
  refused_comps old = rw e

  pub refused_warns : (old : List ℕ) → old ≡ onto (warnings_as (listed_of a)) old
  unfolding given all_numbers onto
  refused_warns old = rw e

  pub refused_words : (old : List ℕ) → old ≡ onto (listed_of a).words old
  unfolding given onto
  refused_words old = rw e
