-- Programs and trees: what `postfix` of a tree does to heights and trees, and that what keeps the rules is `postfix` of a tree.
-- Assumes nothing.
use mathlib.Core.Path.{◌≡◌, refl, sym, ap, ◌∙◌}
use mathlib.Core.Bool.{Bool, true, false, cond, false≢true}
use mathlib.Core.List.{List, [], ◌∷◌, ◌++◌, append_assoc, append-nil}
use Prim.Native.Nat.{ℕ, zero, suc, ◌+◌, ◌-◌, ◌≤◌, ◌<◌, max}
use native.Mathlib.Omega.{arith}
use borrow.Author.Tests.{lt-ltb, le-leb, ltb-true, leb-true, eqb-true}
use lib.Dec.{ltb, eqb}
use lib.ListN.{length, take, length-append}
use Rattle.std.proofs.lemmas.Bool.{and_parts}
use Rattle.text.specs.Scan.{byte_at}
use Rattle.program_check.specs.Rules.{max_words, max_slots, after, height, highest, allowed}
use Rattle.cursor.specs.Limits.{max_comparisons}
use Rattle.program_check.specs.Tree.{Tree, leaf, leaf_yes, and, or, postfix, Below, leaves, slots, join_two, grown, trees, latest, tree_of}
use Rattle.program_check.specs.Word.{word}
use Rattle.program_check.specs.declared.word.Word.{Word}
use Rattle.program_check.specs.declared.word.Word.TheVariants.{Push, And, Or, Yes, Unknown}

-- a program has one word less than twice its leaves
pub postfix_length : (t : Tree) → length (postfix t) + 1 ≡ leaves t + leaves t
unfolding postfix leaves
postfix_length (leaf k) = refl
postfix_length leaf_yes = refl
postfix_length (and a b) = simp length-append (omega (arith, postfix_length a, postfix_length b))
postfix_length (or a b) = simp length-append (omega (arith, postfix_length a, postfix_length b))

-- so 64 leaves keep to 127 words
pub leaves_short : (t : Tree) → leaves t ≤ max_comparisons → length (postfix t) ≤ max_words
leaves_short t l = omega (arith, postfix_length t)

-- numbers below a count are below a larger one
pub below_more : (t : Tree) (m n : ℕ) → m ≤ n → Below m t → Below n t
unfolding Below
below_more (leaf k) m n l b = omega arith
below_more leaf_yes m n l b = tt
below_more (and x y) m n l b = (below_more x m n l b.0, below_more y m n l b.1)
below_more (or x y) m n l b = (below_more x m n l b.0, below_more y m n l b.1)

-- each word may come where it stands, h values standing before the first
abbrev pub Steady : ℕ → ℕ → List ℕ → Type 0
Steady count h [] = Unit {0}
Steady count h (b ∷ s) = (allowed count h (word b) ≡ true) × Steady count (after h (word b)) s

module _ (count : ℕ) where
  pub each_steady : (s : List ℕ) (h : ℕ) → ((i : ℕ) → i < length s → allowed count (height h (take i s)) (word (byte_at s i)) ≡ true) → Steady count h s
  unfolding height
  each_steady [] h each = tt
  each_steady (b ∷ s) h each = (each 0 (omega arith), each_steady s (after h (word b)) (λ i l. each (suc i) (omega arith)))

  pub steady_each : (s : List ℕ) (h : ℕ) → Steady count h s → (i : ℕ) → i < length s → allowed count (height h (take i s)) (word (byte_at s i)) ≡ true
  unfolding height
  steady_each [] h st i l = absurd (omega arith)
  steady_each (b ∷ s) h st zero l = st.0
  steady_each (b ∷ s) h st (suc i) l = steady_each s (after h (word b)) st.1 i (omega arith)

  -- a front of it too
  pub steady_front : (s t : List ℕ) (h : ℕ) → Steady count h (s ++ t) → Steady count h s
  steady_front [] t h st = tt
  steady_front (b ∷ s) t h st = (st.0, steady_front s t (after h (word b)) st.1)

pub slots_some : (t : Tree) → 1 ≤ slots t
unfolding slots
slots_some (leaf k) = omega arith
slots_some leaf_yes = omega arith
slots_some (and a b) = omega (arith, slots_some a)
slots_some (or a b) = omega (arith, slots_some a)

high_from : (h : ℕ) (s : List ℕ) → h ≤ highest h s
unfolding highest
high_from h [] = omega arith
high_from h (b ∷ s) = omega arith

high_leaf : (h : ℕ) (rest : List ℕ) → max h (highest (h + 1) rest) ≡ max (h + 1) (highest (h + 1) rest)
high_leaf h rest = omega (arith, high_from (h + 1) rest)

high_join : (h m n : ℕ) (rest : List ℕ) → 1 ≤ n → max (h + m) (max (h + 1 + n) (max (h + 1 + 1) (highest (h + 1 + 1 - 1) rest))) ≡ max (h + max m (1 + n)) (highest (h + 1) rest)
high_join h m n rest some =
    let e : h + 1 + 1 - 1 ≡ h + 1 = omega arith in
    rw e (omega (arith, high_from (h + 1) rest))

-- what a tree's words do, one behind the other with any rest
module _ (count : ℕ) (few : count ≤ max_comparisons) where
  -- the height: one value more
  pub tree_height : (t : Tree) (h : ℕ) (rest : List ℕ) → Below count t → height h (postfix t ++ rest) ≡ height (h + 1) rest
  unfolding postfix Below height word
  tree_height (leaf k) h rest b = rw (lt-ltb k 64 (omega arith))
  tree_height leaf_yes h rest b = refl
  tree_height (and x y) h rest b = simp append_assoc (tree_height x h _ b.0 ∙ tree_height y (h + 1) _ b.1 ∙ ap (λ n. height n rest) (omega arith))
  tree_height (or x y) h rest b = simp append_assoc (tree_height x h _ b.0 ∙ tree_height y (h + 1) _ b.1 ∙ ap (λ n. height n rest) (omega arith))

  -- so many stand at once as `slots` says
  pub tree_highest : (t : Tree) (h : ℕ) (rest : List ℕ) → Below count t → highest h (postfix t ++ rest) ≡ max (h + slots t) (highest (h + 1) rest)
  unfolding postfix Below slots highest word
  tree_highest (leaf k) h rest b = rw (lt-ltb k 64 (omega arith)) (high_leaf h rest)
  tree_highest leaf_yes h rest b = high_leaf h rest
  tree_highest (and x y) h rest b = simp append_assoc (tree_highest x h _ b.0 ∙ ap (max (h + slots x)) (tree_highest y (h + 1) _ b.1) ∙ high_join h (slots x) (slots y) rest (slots_some y))
  tree_highest (or x y) h rest b = simp append_assoc (tree_highest x h _ b.0 ∙ ap (max (h + slots x)) (tree_highest y (h + 1) _ b.1) ∙ high_join h (slots x) (slots y) rest (slots_some y))

  -- the trees: the tree itself comes to stand on the others
  pub tree_trees : (t : Tree) (ts : List Tree) (rest : List ℕ) → Below count t → trees (postfix t ++ rest) ts ≡ trees rest (t ∷ ts)
  unfolding postfix Below trees word
  tree_trees (leaf k) ts rest b = rw (lt-ltb k 64 (omega arith))
  tree_trees leaf_yes ts rest b = refl
  tree_trees (and x y) ts rest b = simp append_assoc (tree_trees x ts _ b.0 ∙ tree_trees y (x ∷ ts) _ b.1)
  tree_trees (or x y) ts rest b = simp append_assoc (tree_trees x ts _ b.0 ∙ tree_trees y (x ∷ ts) _ b.1)

  -- the rules: they are kept exactly if the slots suffice
  pub tree_steady : (t : Tree) (h : ℕ) (rest : List ℕ) → Below count t → h + slots t ≤ max_slots → Steady count (h + 1) rest → Steady count h (postfix t ++ rest)
  unfolding postfix Below slots word
  tree_steady (leaf k) h rest b l st = rw (lt-ltb k 64 (omega arith)) (rw (lt-ltb k count b, lt-ltb h max_slots (omega arith)) refl, st)
  tree_steady leaf_yes h rest b l st = (lt-ltb h max_slots (omega arith), st)
  tree_steady (and x y) h rest b l st =
      let e : h + 1 + 1 - 1 ≡ h + 1 = omega arith in
      simp append_assoc
      (tree_steady x h _ b.0 (omega arith) (tree_steady y (h + 1) _ b.1 (omega arith) (le-leb 2 (h + 1 + 1) (omega arith), rw e st)))
  tree_steady (or x y) h rest b l st =
      let e : h + 1 + 1 - 1 ≡ h + 1 = omega arith in
      simp append_assoc
      (tree_steady x h _ b.0 (omega arith) (tree_steady y (h + 1) _ b.1 (omega arith) (le-leb 2 (h + 1 + 1) (omega arith), rw e st)))

  pub steady_tree : (t : Tree) (h : ℕ) (rest : List ℕ) → Below count t → Steady count h (postfix t ++ rest) → (h + slots t ≤ max_slots) × Steady count (h + 1) rest
  unfolding postfix Below slots word
  steady_tree (leaf k) h rest b st =
      let p = rw (lt-ltb k 64 (omega arith)) at st in
      (omega (arith, ltb-true h max_slots (and_parts (ltb k count) (ltb h max_slots) p.0).1), p.1)
  steady_tree leaf_yes h rest b st = (omega (arith, ltb-true h max_slots st.0), st.1)
  steady_tree (and x y) h rest b st =
      let e : h + 1 + 1 - 1 ≡ h + 1 = omega arith in
      let p = steady_tree x h (postfix y ++ (64 ∷ rest)) b.0 (simp append_assoc at st) in
      let q = steady_tree y (h + 1) (64 ∷ rest) b.1 p.1 in
      (omega (arith, p.0, q.0), rw e at q.1.1)
  steady_tree (or x y) h rest b st =
      let e : h + 1 + 1 - 1 ≡ h + 1 = omega arith in
      let p = steady_tree x h (postfix y ++ (65 ∷ rest)) b.0 (simp append_assoc at st) in
      let q = steady_tree y (h + 1) (65 ∷ rest) b.1 p.1 in
      (omega (arith, p.0, q.0), rw e at q.1.1)

-- the words of the trees that stand, the oldest first
unfoldable flat : List Tree → List ℕ
flat [] = []
flat (t ∷ ts) = flat ts ++ postfix t

unfoldable Belows : ℕ → List Tree → Type 0
Belows count [] = Unit {0}
Belows count (t ∷ ts) = Below count t × Belows count ts

-- a word's byte
abbrev spelled : Word → ℕ
spelled (Push k) = k.0
spelled And = 64
spelled Or = 65
spelled Yes = 66
spelled Unknown = 67

word_spelled : (b : ℕ) → (word b ≡ Unknown → ⊥) → spelled (word b) ≡ b
unfolding word
word_spelled b = go (ltb b 64) (eqb b 64) (eqb b 65) (eqb b 66) refl refl refl
  where
    go : (t u v x : Bool) → eqb b 64 ≡ u → eqb b 65 ≡ v → eqb b 66 ≡ x →
        let w = cond t (Push (record { 0 = b })) (cond u And (cond v Or (cond x Yes Unknown))) in
        (w ≡ Unknown → ⊥) → spelled w ≡ b
    go true u v x p q r h = refl
    go false true v x p q r h = sym (eqb-true b 64 p)
    go false false true x p q r h = sym (eqb-true b 65 q)
    go false false false true p q r h = sym (eqb-true b 66 r)
    go false false false false p q r h = absurd (h refl)

-- what a word that may come makes of the trees that stand
record Grown (count : ℕ) (b : ℕ) (ts us : List Tree) (h : ℕ) : Type 0 where
  text : flat us ≡ flat ts ++ (b ∷ [])
  size : length us ≡ h
  below : Belows count us

module _ (count : ℕ) where
  join_grown : (f : Tree → Tree → Tree) (b : ℕ) (ts : List Tree) (h : ℕ) → ((x y : Tree) → postfix (f x y) ≡ postfix x ++ (postfix y ++ (b ∷ []))) → ((x y : Tree) → Below count x → Below count y → Below count (f x y)) →
      length ts ≡ h → 2 ≤ h → Belows count ts → Grown count b ts (join_two f ts) (h - 1)
  unfolding flat Belows
  join_grown f b [] h text low size two bs = absurd (omega arith)
  join_grown f b (y ∷ []) h text low size two bs = absurd (omega arith)
  join_grown f b (y ∷ (x ∷ ts)) h text low size two bs = record {
    text = rw (text x y) (simp append_assoc);
    size = omega arith;
    below = (low x y bs.1.0 bs.0, bs.1.1);
  }

  grow : (w : Word) (b : ℕ) (ts : List Tree) (h : ℕ) → spelled w ≡ b → length ts ≡ h → allowed count h w ≡ true → Belows count ts → Grown count b ts (grown w ts) (after h w)
  unfolding postfix Below flat Belows
  grow (Push k) b ts h e size a bs = record {
    text = rw e;
    size = omega arith;
    below = (ltb-true k.0 count (and_parts (ltb k.0 count) (ltb h max_slots) a).0, bs);
  }
  grow And b ts h e size a bs = join_grown and b ts h (λ x y. rw (← e)) (λ x y p q. (p, q)) size (leb-true 2 h a) bs
  grow Or b ts h e size a bs = join_grown or b ts h (λ x y. rw (← e)) (λ x y p q. (p, q)) size (leb-true 2 h a) bs
  grow Yes b ts h e size a bs = record { text = rw (← e); size = omega arith; below = (tt, bs) }
  grow Unknown b ts h e size a bs = absurd (false≢true a)

  -- a program that keeps the rules is what its trees say, and one tree stands for each value
  forest : (s : List ℕ) (ts : List Tree) (h : ℕ) → length ts ≡ h → Steady count h s → Belows count ts → (flat (trees s ts) ≡ flat ts ++ s) × (length (trees s ts) ≡ height h s) × Belows count (trees s ts)
  unfolding trees height
  forest [] ts h size st bs = (sym (append-nil (flat ts)), size, bs)
  forest (b ∷ s) ts h size st bs =
      let known : word b ≡ Unknown → ⊥ = λ e. false≢true (rw e at st.0) in
      let g = grow (word b) b ts h (word_spelled b known) size st.0 bs in
      let f = forest s (grown (word b) ts) (after h (word b)) g.size st.1 g.below in
      (f.0 ∙ ap (λ l. l ++ s) g.text ∙ append_assoc (flat ts) (b ∷ []) s, f.1, f.2)

  -- where one value stands at the end, it is one tree, the program's
  pub one_tree : (s : List ℕ) → Steady count 0 s → height 0 s ≡ 1 → (trees s [] ≡ tree_of s ∷ []) × (postfix (tree_of s) ≡ s) × Below count (tree_of s)
  unfolding tree_of flat Belows
  one_tree s st one = let f = forest s [] 0 refl st tt in go (trees s []) f.0 (f.1 ∙ one) f.2
    where
      go : (ts : List Tree) → flat ts ≡ s → length ts ≡ 1 → Belows count ts → (ts ≡ latest ts ∷ []) × (postfix (latest ts) ≡ s) × Below count (latest ts)
      go [] e n bs = absurd (omega arith)
      go (t ∷ []) e n bs = (refl, e, bs.0)
      go (t ∷ (u ∷ ts)) e n bs = absurd (omega arith)
