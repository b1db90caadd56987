-- The tree of a program, and what it says.
use Rattle.std.specs.Prelude.{ℕ, ◌+◌, ◌≤◌, ◌<◌, max, Bool, true, ◌&&◌, ◌||◌, List, [], ◌∷◌, ◌++◌, length}
use Rattle.program_check.specs.Rules.{max_words, max_slots}
use Rattle.cursor.specs.Limits.{max_comparisons}
use Rattle.program_check.specs.Word.{word}
use Rattle.program_check.specs.declared.word.Word.{Word}
use Rattle.program_check.specs.declared.word.Word.TheVariants.{Push, And, Or, Yes, Unknown}

-- and and or over comparisons, by their numbers, and yes
pub data Tree : Type 0 where
  leaf : ℕ → Tree
  leaf_yes : Tree
  and : Tree → Tree → Tree
  or : Tree → Tree → Tree

-- "Postfix: an operator comes as soon as both sides are there."
unfoldable pub postfix : Tree → List ℕ
postfix (leaf k) = k ∷ []
postfix leaf_yes = 66 ∷ []
postfix (and a b) = postfix a ++ (postfix b ++ (64 ∷ []))
postfix (or a b) = postfix a ++ (postfix b ++ (65 ∷ []))

-- a sense to take trees in, from their leaves up: yes and no here, other values for whoever asks something else of the same trees
pub record Sense (A : Type 0) : Type 0 where
  pub number : ℕ → A
  pub yes : A
  pub both : A → A → A
  pub either : A → A → A

-- what a tree comes to in a sense
unfoldable pub fold : {A : Type 0} → Sense A → Tree → A
fold m (leaf k) = m.number k
fold m leaf_yes = m.yes
fold m (and a b) = m.both (fold m a) (fold m b)
fold m (or a b) = m.either (fold m a) (fold m b)

-- what a tree says, where comparison k is `env k`
abbrev pub saying : (ℕ → Bool) → Sense Bool
saying env = record { number = env; yes = true; both = ◌&&◌; either = ◌||◌ }

-- and so yes or no
abbrev pub value : (ℕ → Bool) → Tree → Bool
value env t = fold (saying env) t

-- "each comparison number below the count"
unfoldable pub Below : ℕ → Tree → Type 0
Below count (leaf k) = k < count
Below count leaf_yes = Unit {0}
Below count (and a b) = Below count a × Below count b
Below count (or a b) = Below count a × Below count b

-- how many comparisons and yeses a tree holds
unfoldable pub leaves : Tree → ℕ
leaves (leaf k) = 1
leaves leaf_yes = 1
leaves (and a b) = leaves a + leaves b
leaves (or a b) = leaves a + leaves b

-- how many values stand at once, at most, while its words are obeyed: the left side's value waits while the right side is made
unfoldable pub slots : Tree → ℕ
slots (leaf k) = 1
slots leaf_yes = 1
slots (and a b) = max (slots a) (1 + slots b)
slots (or a b) = max (slots a) (1 + slots b)

-- a tree within the limits of document 01's rules
pub record Within (t : Tree) (count : ℕ) : Type 0 where
  pub few : count ≤ max_comparisons
  pub below : Below count t
  pub short : length (postfix t) ≤ max_words
  pub small : slots t ≤ max_slots

-- "The tree: a push is a leaf, an operator joins the two latest trees, the older on the left." The latest stands first.
abbrev pub join_two : (Tree → Tree → Tree) → List Tree → List Tree
join_two f [] = []
join_two f (b ∷ []) = b ∷ []
join_two f (b ∷ (a ∷ ts)) = f a b ∷ ts

-- the trees that stand after a word, where ts stood before it
abbrev pub grown : Word → List Tree → List Tree
grown (Push k) ts = leaf k.0 ∷ ts
grown And ts = join_two and ts
grown Or ts = join_two or ts
grown Yes ts = leaf_yes ∷ ts
grown Unknown ts = ts

-- and after a program
unfoldable pub trees : List ℕ → List Tree → List Tree
trees [] ts = ts
trees (b ∷ s) ts = trees s (grown (word b) ts)

-- the latest of the trees that stand; asked only where one does
abbrev pub latest : List Tree → Tree
latest [] = leaf_yes
latest (t ∷ ts) = t

-- the tree of a program that passes: the one that stands at the end
unfoldable pub tree_of : List ℕ → Tree
tree_of s = latest (trees s [])
