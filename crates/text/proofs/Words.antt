-- The laws of `begins_by`, `begins` and `spells`. Assumes nothing.
use mathlib.Core.Path.{◌≡◌, refl, sym, ap, ap₂, ◌∙◌}
use mathlib.Core.Bool.{Bool, true, false, ◌&&◌, and-false, false≢true}
use mathlib.Core.List.{List, [], ◌∷◌, ◌++◌, nil≢cons, head-eq_of_cons-eq, tail-eq_of_cons-eq}
use Prim.Native.Nat.{ℕ, ◌-◌, ◌≤◌, ◌<◌, min, zero-le, suc-le-suc}
use native.Mathlib.Omega.{arith}
use borrow.Author.Tests.{eqb-true, eq-eqb, ne_eqb}
use lib.Dec.{eqb}
use lib.ListN.{length, take, drop, length-drop}
use lib.Seq.{take_all}
use Rattle.std.proofs.lemmas.List.{drop_min}
use Rattle.std.specs.List.{list_all, zip}
use Rattle.std.proofs.lemmas.Bool.{and_parts}
use Rattle.text.proofs.Laws.{runs}
use Rattle.text.specs.Word.{begins_by, begins, spells}
use Rattle.refusal.specs.declared.place.Span.{Span}

-- pairs that are all alike, of a word and as much of a text
module _ (alike : ℕ → ℕ → Bool) where
  pub pairs_begin : (w s : List ℕ) → length w ≤ length s → list_all (λ x. alike x.0 x.1) (zip s w) ≡ begins_by alike w s
  unfolding begins_by
  pairs_begin [] [] h = refl
  pairs_begin [] (b ∷ s) h = refl
  pairs_begin (a ∷ w) [] h = absurd (omega arith)
  pairs_begin (a ∷ w) (b ∷ s) h = ap (λ (r : Bool). alike b a && r) (pairs_begin w s (omega arith))

  pub short_begins : (w s : List ℕ) → length s < length w → false ≡ begins_by alike w s
  unfolding begins_by
  short_begins [] s h = absurd (omega arith)
  short_begins (a ∷ w) [] h = refl
  short_begins (a ∷ w) (b ∷ s) h = rw (← short_begins w s (omega arith)) (sym (and-false (alike b a)))

-- what is left of a text from a place: nothing past the end
pub rest_is : (s : List ℕ) (at from : ℕ) → from ≡ min at (length s) → take (length s - from) (drop from s) ≡ drop at s
rest_is s at from here = take_all (length s - from) (drop from s) (omega (arith, length-drop from s)) ∙ ap (λ (k : ℕ). drop k s) here ∙ drop_min at s

-- a word of another length is not the span's
module _ (m n : ℕ) (t : Bool) where
  pub length_same : (r : Bool) → m ≡ n → r ≡ t → r ≡ (eqb m n && t)
  length_same r e told = rw (eq-eqb m n e) told

  pub length_other : (m ≡ n → ⊥) → false ≡ (eqb m n && t)
  length_other e = rw (ne_eqb m n e)

pub ruleset spelling = (length_same, length_other, runs)

-- a text begins with a word exactly if its first bytes are the word
pub begins_word : (w s : List ℕ) → begins w s ≡ true → take (length w) s ≡ w
unfolding begins_by
begins_word [] s h = refl
begins_word (a ∷ w) [] h = absurd (false≢true h)
begins_word (a ∷ w) (b ∷ s) h =
    let (first, rest) = and_parts (eqb b a) (begins w s) h in
    ap₂ ◌∷◌ (eqb-true b a first) (begins_word w s rest)

pub word_begins : (w s : List ℕ) → take (length w) s ≡ w → begins w s ≡ true
unfolding begins_by
word_begins [] s h = refl
word_begins (a ∷ w) [] h = absurd (nil≢cons h)
word_begins (a ∷ w) (b ∷ s) h = rw (eq-eqb b a (head-eq_of_cons-eq h)) (word_begins w s (tail-eq_of_cons-eq h))

-- and so a span is a word exactly if its bytes are the word
module _ (w s : List ℕ) (span : Span) where
  pub spells_bytes : spells w s span ≡ true → take span.len (drop span.start.0 s) ≡ w
  spells_bytes h =
      let (long, there) = and_parts (eqb span.len (length w)) (begins w (drop span.start.0 s)) h in
      rw (eqb-true span.len (length w) long) (begins_word w (drop span.start.0 s) there)

  pub bytes_spells : span.len ≡ length w → take span.len (drop span.start.0 s) ≡ w → spells w s span ≡ true
  bytes_spells long there = rw (eq-eqb span.len (length w) long) (word_begins w (drop span.start.0 s) (rw long at there))

module _ (alike : ℕ → ℕ → Bool) where
  -- what follows the text does not matter where the text is as long as the word
  pub begins_local : (w s t : List ℕ) → length w ≤ length s → begins_by alike w (s ++ t) ≡ begins_by alike w s
  unfolding begins_by
  begins_local [] s t h = refl
  begins_local (a ∷ w) [] t h = absurd (omega arith)
  begins_local (a ∷ w) (b ∷ s) t h = ap (λ (r : Bool). alike b a && r) (begins_local w s t (omega arith))

  -- a word that stands in front fits
  pub begins_fits : (w s : List ℕ) → begins_by alike w s ≡ true → length w ≤ length s
  unfolding begins_by
  begins_fits [] s h = zero-le
  begins_fits (a ∷ w) [] h = absurd (false≢true h)
  begins_fits (a ∷ w) (b ∷ s) h = suc-le-suc (begins_fits w s (and_parts (alike b a) (begins_by alike w s) h).1)
