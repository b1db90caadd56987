-- What the check passes is `postfix` of exactly one tree, and the program of every tree within the limits passes. Assumes nothing.
use mathlib.Core.Path.{◌≡◌, refl, sym, ap, ap₂, ◌∙◌}
use mathlib.Core.List.{List, [], append-nil}
use Prim.Native.Nat.{ℕ, ◌≤◌, ◌<◌}
use native.Mathlib.Omega.{arith}
use Rattle.refusal.specs.Answer.{passes}
use Rattle.program_check.specs.Check.{checked_program}
use Rattle.program_check.specs.Rules.{height, highest}
use Rattle.cursor.specs.Limits.{max_comparisons}
use Rattle.program_check.specs.Tree.{Tree, leaf, leaf_yes, and, or, postfix, Sense, fold, Below, slots, Within, trees, tree_of}
use Rattle.program_laws.proofs.Forest.{slots_some, Steady, each_steady, steady_each, tree_height, tree_highest, tree_trees, tree_steady, steady_tree, one_tree}
use Rattle.program_laws.proofs.Steady.{Kept, passes_kept, kept_passes}

-- the tree of a tree's program is that tree
pub tree_own : (t : Tree) (count : ℕ) → count ≤ max_comparisons → Below count t → tree_of (postfix t) ≡ t
unfolding tree_of trees
tree_own t count few b = rw (← append-nil (postfix t), tree_trees count few t [] [] b)

-- the words of a tree reach the height that `slots` says
pub slots_reached : (t : Tree) (count : ℕ) → count ≤ max_comparisons → Below count t → highest 0 (postfix t) ≡ slots t
unfolding highest
slots_reached t count few b = rw (← append-nil (postfix t), tree_highest count few t 0 [] b) (omega (arith, slots_some t))

-- two trees with the same program are the same
pub postfix_own : (t u : Tree) (count : ℕ) → count ≤ max_comparisons → Below count t → Below count u → postfix t ≡ postfix u → t ≡ u
postfix_own t u count few a b e = sym (tree_own t count few a) ∙ ap tree_of e ∙ tree_own u count few b

-- every tree within the limits passes
pub within_passes : (t : Tree) (count : ℕ) → Within t count → checked_program (postfix t) count ≡ passes
unfolding height
within_passes t count w = kept_passes (postfix t) count (record {
  few = w.few;
  short = w.short;
  each = steady_each count (postfix t) 0 (rw append-nil at (tree_steady count w.few t 0 [] w.below (omega (arith, w.small)) tt));
  one = rw (← append-nil (postfix t), tree_height count w.few t 0 [] w.below);
})

module _ (s : List ℕ) (count : ℕ) (h : checked_program s count ≡ passes) where
  kept : Kept s count
  kept = passes_kept s count h

  -- each word may come where it stands
  pub passes_steady : Steady count 0 s
  passes_steady = each_steady count s 0 kept.each

  -- what passes is `postfix` of its tree
  pub passes_postfix : postfix (tree_of s) ≡ s
  passes_postfix = (one_tree count s passes_steady kept.one).1

  -- which is within the limits
  pub passes_within : Within (tree_of s) count
  passes_within = record {
    few = kept.few;
    below = (one_tree count s passes_steady kept.one).2;
    short = rw passes_postfix kept.short;
    small = omega (arith, (steady_tree count kept.few (tree_of s) 0 [] (one_tree count s passes_steady kept.one).2 (rw (append-nil, passes_postfix) passes_steady)).0);
  }

  -- and the only one
  pub passes_one : (t : Tree) → Below count t → postfix t ≡ s → t ≡ tree_of s
  passes_one t b e = sym (tree_own t count kept.few b) ∙ ap tree_of e

-- comparisons at or above the count have no effect on what is made of a tree
pub fold_below : {A : Type 0} (t : Tree) (count : ℕ) (m : Sense A) (f : ℕ → A) → Below count t → ((k : ℕ) → k < count → m.number k ≡ f k) → fold m t ≡ fold (record { number = f; yes = m.yes; both = m.both; either = m.either }) t
unfolding fold Below
fold_below (leaf k) count m f b same = same k b
fold_below leaf_yes count m f b same = refl
fold_below (and x y) count m f b same = ap₂ m.both (fold_below x count m f b.0 same) (fold_below y count m f b.1 same)
fold_below (or x y) count m f b same = ap₂ m.either (fold_below x count m f b.0 same) (fold_below y count m f b.1 same)

-- document 01's "exactly if", in both directions: what passes is `postfix` of exactly one tree with its numbers below the count, which is within the
-- limits; and the program of every tree within the limits passes
pub exactly : (s : List ℕ) (count : ℕ) →
    (checked_program s count ≡ passes → (t : Tree) × (Within t count) × (postfix t ≡ s) × ((u : Tree) → Below count u → postfix u ≡ s → u ≡ t))
    × ((t : Tree) → Within t count → postfix t ≡ s → checked_program s count ≡ passes)
exactly s count = (
  (λ h. (tree_of s, passes_within s count h, passes_postfix s count h, passes_one s count h)),
  (λ t w e. rw (← e) (within_passes t count w)),
)
