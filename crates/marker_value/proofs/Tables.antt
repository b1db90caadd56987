-- The entry that a search finds is what stands beside the first word of the table. Assumes nothing.
use mathlib.Core.Path.{◌≡◌, refl, ap, ◌∙◌}
use mathlib.Core.Bool.{Bool, true, false, cond}
use mathlib.Core.List.{List, [], ◌∷◌, map}
use Prim.Native.Nat.{ℕ}
use Rattle.std.proofs.Common.{Bor}
use Rattle.std.specs.Prelude.{Option, Some, None, option_map}
use Rattle.std.specs.List.{find}
use Rattle.refusal.specs.declared.place.Span.{Span}
use Rattle.text.specs.Word.{spells}
use Rattle.marker_value.specs.Table.{among}

module _ {X : Type 0} (s : List ℕ) (at : Span) where
  abbrev pub word_is : Bor (List ℕ) × X → Bool
  word_is e = spells e.0.now s at

  abbrev pub words_of : List (Bor (List ℕ) × X) → List (List ℕ × X)
  words_of table = map (λ e. (e.0.now, e.1)) table

  entry_found : (table : List (Bor (List ℕ) × X)) → option_map (λ e. e.1) (find word_is table) ≡ among (words_of table) s at
  entry_found [] = refl
  entry_found (e ∷ more) = go (word_is e) (entry_found more)
    where
      go : (t : Bool) → option_map (λ e. e.1) (find word_is more) ≡ among (words_of more) s at →
          option_map (λ e. e.1) (cond t (Some e) (find word_is more)) ≡ cond t (Some e.1) (among (words_of more) s at)
      go true h = refl
      go false h = h

  pub among_found : (table : List (Bor (List ℕ) × X)) (r : Option (Bor (Bor (List ℕ) × X))) → option_map (λ x. x.now) r ≡ find word_is table →
      option_map (λ x. x.now.1) r ≡ among (words_of table) s at
  among_found table None e = ap (option_map (λ e. e.1)) e ∙ entry_found table
  among_found table (Some x) e = ap (option_map (λ e. e.1)) e ∙ entry_found table
