-- The laws of the quick door: what it replies and writes, where a stage has decided. Assumes nothing.
use mathlib.Core.Path.{◌≡◌, refl, sym, ◌∙◌}
use mathlib.Core.List.{List, [], ◌∷◌}
use Prim.Native.Nat.{ℕ, ◌≤◌}
use native.Mathlib.Omega.{arith}
use lib.ListN.{set, replicate, length-replicate}
use Rattle.std.specs.Prelude.{Result, Ok}
use Rattle.std.specs.Result.{IsErrAnd}
use Rattle.arrays.specs.Front.{onto}
use Rattle.cursor.proofs.Checks.{checked_good}
use Rattle.cursor.proofs.Passed.{told_passed, refused_on}
use Rattle.refusal.specs.Answer.{Answer, good, refused, passes, on_good}
use Rattle.cursor.specs.Check.{checked}
use Rattle.refusal.specs.Refusal.{given, told}
use Rattle.refusal.specs.declared.fault.Refusal.{Refusal}
use Rattle.spans.proofs.Arrays.{load_onto}
use Rattle.spans.specs.Flat.{flat, spans_onto, loaded, list_numbers}
use Rattle.cursor.specs.Limits.{max_list}
use Rattle.line_head.proofs.Counts.{Counts, head_counts, extras_of_few, texts_of_few}
use Rattle.line_head.specs.Head.{head, extras_of, texts_of, text_count}
use Rattle.line_head.specs.declared.part.Head.{Head}
use Rattle.marker.specs.Answer.{listed_of, counts_of}
use Rattle.marker_store.specs.Numbers.{all_numbers}
use Rattle.marker_store.specs.declared.marks.Counts as C
use Rattle.marker_steps.specs.Marking.{comparisons_as, warnings_as, Marking}
use Rattle.line.specs.Figures.{Buffers, figures_of, buffers, written, ReadInto}
use Rattle.line.specs.Line.{Parts, parts_of, marked, line_parts, line_answer, empty}
use Rattle.line.specs.inner.Together.{head_figures}
use Rattle.line.specs.declared.figures.Figures.{Figures}

pub first_set : (l : List ℕ) (w : ℕ) → set l 0 w ≡ onto (w ∷ []) l
unfolding onto
first_set [] w = refl
first_set (a ∷ l) w = refl

-- a refusal writes nothing
untouched : (b : Buffers) → b ≡ written empty b.extras b.texts b.comparisons b.warnings b.words
unfolding flat onto all_numbers
untouched b = refl

-- a line that is refused
pub refused_into : (a : Answer Parts) (why : Refusal) (b : Buffers) (r : Result Figures Refusal) → given why ≡ a → IsErrAnd r (λ e. e ≡ why) → ReadInto a b r b
unfolding given
refused_into a why b r e is = record { answer = told_passed r why (on_good figures_of a) is (refused_on figures_of why a e); output = rw (← e) (untouched b) }

-- the parts before the marker are refused
pub head_refused : (s : List ℕ) (k : Result (Unit {0}) Refusal) (why : Refusal) → told k ≡ checked s passes → k ≡ Ok tt → given why ≡ head s → given why ≡ line_answer s
unfolding line_parts given
head_refused s k why made passed e = checked_good s k (line_parts s) made (given why) passed (rw (← e))

-- or read
module _ (s : List ℕ) (h : Head) (read : good h ≡ head s) where
  pub counts : Counts (extras_of s) (texts_of s) h
  counts = rw (← read) at (head_counts s)

  pub names_fit : h.extras ≤ max_list
  names_fit = rw counts.named (extras_of_few s)

  pub asked_fit : (n : ℕ) → n ≡ text_count h.wanted → n ≤ max_list
  asked_fit n e = rw (e, counts.asked) (texts_of_few s)

  pub names_are : (named : List ℕ) → named ≡ spans_onto (extras_of s) (replicate list_numbers 0) → loaded h.extras named ≡ extras_of s
  names_are named e = rw (e, counts.named) (load_onto (extras_of s) (replicate list_numbers 0) (omega (arith, extras_of_few s, length-replicate {A = ℕ} list_numbers 0)))

  pub asked_are : (asked : List ℕ) → asked ≡ spans_onto (texts_of s) (replicate list_numbers 0) → loaded (text_count h.wanted) asked ≡ texts_of s
  asked_are asked e = rw (e, counts.asked) (load_onto (texts_of s) (replicate list_numbers 0) (omega (arith, texts_of_few s, length-replicate {A = ℕ} list_numbers 0)))

  -- and the check before it passes
  module _ (k : Result (Unit {0}) Refusal) (made : told k ≡ checked s passes) (passed : k ≡ Ok tt) where
    pub line_is : line_answer s ≡ on_good (parts_of s h) (marked s h.marker)
    line_is = sym (checked_good s k (line_parts s) made (line_parts s) passed refl) ∙ (unfold line_parts in rw (← read))

    -- the marker is refused, or read
    pub marker_into : (why : Refusal) (a b c c' d d' x x' : List ℕ) (r : Result Figures Refusal) → given why ≡ on_good counts_of (marked s h.marker) → IsErrAnd r (λ e. e ≡ why) → c' ≡ onto (comparisons_as (listed_of (marked s h.marker))) c → d' ≡ onto (warnings_as (listed_of (marked s h.marker))) d → x' ≡ onto (listed_of (marked s h.marker)).words x → ReadInto (line_answer s) (buffers a b c d x) r (buffers a b c' d' x')
    unfolding given all_numbers onto
    marker_into why a b c c' d d' x x' r e is p q u = go (marked s h.marker) line_is e p q u
      where
        go : (m : Answer Marking) → line_answer s ≡ on_good (parts_of s h) m → given why ≡ on_good counts_of m → c' ≡ onto (comparisons_as (listed_of m)) c → d' ≡ onto (warnings_as (listed_of m)) d → x' ≡ onto (listed_of m).words x → ReadInto (line_answer s) (buffers a b c d x) r (buffers a b c' d' x')
        go (good m) l f p q u = let z : ◌≡◌ {A = ℕ} 0 1 = cc in absurd (omega arith)
        go (refused number start len) l f p q u = rw (p, q, u) (refused_into (line_answer s) why (buffers a b c d x) r (cc) is)

    pub read_into : (f : Figures) (m : C.Counts) (n : ℕ) (named asked a a' b b' c c' d d' x x' : List ℕ) → good m ≡ on_good counts_of (marked s h.marker) → f ≡ head_figures h m → named ≡ spans_onto (extras_of s) (replicate list_numbers 0) → asked ≡ spans_onto (texts_of s) (replicate list_numbers 0) → n ≡ text_count h.wanted → a' ≡ spans_onto (loaded h.extras named) a → b' ≡ spans_onto (loaded n asked) b → c' ≡ onto (comparisons_as (listed_of (marked s h.marker))) c → d' ≡ onto (warnings_as (listed_of (marked s h.marker))) d → x' ≡ onto (listed_of (marked s h.marker)).words x → ReadInto (line_answer s) (buffers a b c d x) (Ok f) (buffers a' b' c' d' x')
    read_into f m n named asked a a' b b' c c' d d' x x' e is first second k left right p q u = go (marked s h.marker) line_is e p q u
      where
        go : (w : Answer Marking) → line_answer s ≡ on_good (parts_of s h) w → good m ≡ on_good counts_of w → c' ≡ onto (comparisons_as (listed_of w)) c → d' ≡ onto (warnings_as (listed_of w)) d → x' ≡ onto (listed_of w).words x → ReadInto (line_answer s) (buffers a b c d x) (Ok f) (buffers a' b' c' d' x')
        go (good w) l g p q u =
            let counted : m ≡ counts_of w = cc in
            let texts : b' ≡ spans_onto (texts_of s) b = rw (right, k, asked_are asked second) in
            let extras : a' ≡ spans_onto (extras_of s) a = rw (left, names_are named first) in
            record {
              answer = rw (l, is, counted, counts.named, counts.asked);
              output = rw (l, p, q, u, texts, extras);
            }
        go (refused number start len) l g p q u = let z : ◌≡◌ {A = ℕ} 0 1 = cc in absurd (omega arith)
