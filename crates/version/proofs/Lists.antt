-- A list of versions is what stands between white space. Assumes nothing.
use mathlib.Core.Path.{◌≡◌, refl}
use mathlib.Core.Bool.{Bool, ◌||◌}
use mathlib.Core.List.{List, [], ◌∷◌}
use Prim.Native.Nat.{ℕ}
use lib.Dec.{eqb, eqb-suc-zero}
use lib.ListN.{length}
use Rattle.std.specs.List.{list_all, onto_first, slice_split}
use Rattle.text.specs.Class.{is_space}
use Rattle.version.specs.Reading.{attach, pieces}
use Rattle.version.specs.Rules.{blank, is_version, all_versions, is_version_list}

attach_is : (b : ℕ) (l : List (List ℕ)) → onto_first b l ≡ attach b l
attach_is b [] = refl
attach_is b (piece ∷ l) = refl

-- the library cuts a text as `pieces` does
pub split_pieces : (p : ℕ → Bool) (s : List ℕ) → slice_split p s ≡ pieces p s
unfolding pieces
split_pieces p [] = refl
split_pieces p (b ∷ s) = rw (split_pieces p s, attach_is b (pieces p s))

pub all_is : (l : List (List ℕ)) → list_all (λ piece. blank piece || is_version piece) l ≡ all_versions l
unfolding all_versions
all_is [] = refl
all_is (piece ∷ l) = rw (all_is l)

pub list_is : (s : List ℕ) → list_all (λ piece. blank piece || is_version piece) (slice_split is_space s) ≡ is_version_list s
unfolding is_version_list
list_is s = rw (split_pieces is_space s) (all_is (pieces is_space s))

-- a piece that is empty is no version, and no harm
pub blank_is : (s : List ℕ) → eqb (length s) 0 ≡ blank s
blank_is [] = refl
blank_is (b ∷ s) = eqb-suc-zero (length s)
