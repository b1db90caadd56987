-- What a marker says under an assignment, with ignored comparisons and emptied groups dropped.
use Rattle.std.specs.Prelude.{ℕ, ◌+◌, Bool, length}
use Rattle.marker_verdict.specs.declared.verdict.Verdict.{Verdict}
use Rattle.marker_verdict.specs.declared.verdict.Verdict.TheVariants.{Kept, KeptWarned, Ignored, IgnoredTwice}
use Rattle.marker_steps.specs.Grammar.{Tree, compared, both, either, group, kept_of}
use Rattle.program_check.specs.Tree as Program
use Rattle.program_check.specs.Tree.{Sense, saying, leaf, leaf_yes, and, or}

-- what is left of a part
pub data Left (A : Type 0) : Type 0 where
  none : Left A
  left : A → Left A

-- two sides of which either may have been dropped
abbrev pub meet : {A : Type 0} → (A → A → A) → Left A → Left A → Left A
meet f none y = y
meet f (left x) none = left x
meet f (left x) (left y) = left (f x y)

abbrev pub left_in : {A : Type 0} → Sense A → ℕ → Verdict → Left A
left_in m n (Kept c) = left (m.number n)
left_in m n (KeptWarned c) = left (m.number n)
left_in m n (Ignored kind) = none
left_in m n (IgnoredTwice kind) = none

-- what is left of a tree whose first kept comparison has the number n, made up from its comparisons as m says
unfoldable pub left_of : {A : Type 0} → Sense A → ℕ → Tree → Left A
left_of m n (compared v x) = left_in m n v
left_of m n (both a b) = meet m.both (left_of m n a) (left_of m (n + length (kept_of a)) b)
left_of m n (either a b) = meet m.either (left_of m n a) (left_of m (n + length (kept_of a)) b)
left_of m n (group a) = left_of m n a

-- yes where nothing is left
abbrev pub or_yes : {A : Type 0} → Sense A → Left A → A
or_yes m none = m.yes
or_yes m (left x) = x

abbrev pub made_of : {A : Type 0} → Sense A → Tree → A
made_of m t = or_yes m (left_of m 0 t)

-- what a marker says where comparison k is `env k`
abbrev pub value_of : (ℕ → Bool) → Tree → Bool
value_of env t = made_of (saying env) t

-- the tree of its program
abbrev pub growing : Sense Program.Tree
growing = record { number = leaf; yes = leaf_yes; both = and; either = or }

abbrev pub tree_for : Tree → Program.Tree
tree_for t = made_of growing t
