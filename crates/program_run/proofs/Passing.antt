-- What a program that passes does to the machine: it lacks nothing, and ends with what is made of the tree. Assumes nothing.
use mathlib.Core.Path.{◌≡◌, refl, ap, ◌∙◌}
use mathlib.Core.Bool.{true, false≢true}
use mathlib.Core.List.{List, [], ◌∷◌, ◌++◌, append_assoc, append-nil}
use Prim.Native.Nat.{ℕ, ◌+◌, ◌-◌, ◌≤◌, ◌<◌}
use native.Mathlib.Omega.{arith}
use borrow.Author.Tests.{lt-ltb, leb-true}
use lib.Dec.{ltb}
use lib.ListN.{length, take, drop, take-append-drop}
use Rattle.std.proofs.lemmas.Bool.{and_parts}
use Rattle.refusal.specs.Answer.{passes}
use Rattle.program_check.specs.Check.{checked_program}
use Rattle.program_check.specs.Rules.{max_slots, after, height, allowed}
use Rattle.cursor.specs.Limits.{max_comparisons}
use Rattle.program_check.specs.Tree.{Tree, leaf, leaf_yes, and, or, postfix, Sense, fold, Below, slots, tree_of}
use Rattle.program_check.specs.Word.{word}
use Rattle.program_check.specs.declared.word.Word.{Word}
use Rattle.program_check.specs.declared.word.Word.TheVariants.{Push, And, Or, Yes, Unknown}
use Rattle.program_laws.proofs.Forest.{Steady, steady_front}
use Rattle.program_laws.proofs.Meaning.{passes_steady, passes_postfix, passes_within}
use Rattle.program_run.specs.Machine.{stands, pushed, operated, obeyed, if_stands, steps, Ends}

-- a tree's words, with any rest behind them: what is made of the tree is pushed on any values that leave it room
module _ {A : Type 0} (count : ℕ) (few : count ≤ max_comparisons) (m : Sense A) where
  push_on : (v : A) (st : List A) (rest : List ℕ) → length st < max_slots → if_stands (pushed v st) (steps m rest) ≡ steps m rest (v ∷ st)
  push_on v st rest l = rw (lt-ltb (length st) max_slots)

  pub tree_steps : (t : Tree) (st : List A) (rest : List ℕ) → Below count t → length st + slots t ≤ max_slots → steps m (postfix t ++ rest) st ≡ steps m rest (fold m t ∷ st)
  unfolding postfix Below slots fold steps word
  tree_steps (leaf k) st rest b l = rw (lt-ltb k 64 (omega arith)) (push_on (m.number k) st rest (omega arith))
  tree_steps leaf_yes st rest b l = push_on m.yes st rest (omega arith)
  tree_steps (and x y) st rest b l = simp append_assoc (tree_steps x st _ b.0 (omega arith) ∙ tree_steps y (fold m x ∷ st) _ b.1 (omega arith))
  tree_steps (or x y) st rest b l = simp append_assoc (tree_steps x st _ b.0 (omega arith) ∙ tree_steps y (fold m x ∷ st) _ b.1 (omega arith))

-- where each word may come, the machine lacks nothing
module _ {A : Type 0} (count : ℕ) (m : Sense A) where
  two : (f : A → A → A) (st : List A) → 2 ≤ length st → (us : List A) × (operated f st ≡ stands us) × (length us ≡ length st - 1)
  two f [] l = absurd (omega arith)
  two f (y ∷ []) l = absurd (omega arith)
  two f (y ∷ (x ∷ st)) l = (f x y ∷ st, refl, omega arith)

  obeyed_stands : (w : Word) (st : List A) → allowed count (length st) w ≡ true → (us : List A) × (obeyed m w st ≡ stands us) × (length us ≡ after (length st) w)
  obeyed_stands (Push k) st a = let r = (and_parts (ltb k.0 count) (ltb (length st) max_slots) a).1 in (m.number k.0 ∷ st, rw r, omega arith)
  obeyed_stands And st a = two m.both st (leb-true 2 (length st) a)
  obeyed_stands Or st a = two m.either st (leb-true 2 (length st) a)
  obeyed_stands Yes st a = (m.yes ∷ st, rw a, omega arith)
  obeyed_stands Unknown st a = absurd (false≢true a)

  steady_stands : (s : List ℕ) (st : List A) → Steady count (length st) s → (us : List A) × (steps m s st ≡ stands us) × (length us ≡ height (length st) s)
  unfolding steps height
  steady_stands [] st ok = (st, refl, refl)
  steady_stands (b ∷ s) st ok =
      let p = obeyed_stands (word b) st ok.0 in
      let q = steady_stands s p.0 (rw p.2 ok.1) in
      (q.0, rw p.1 q.1, q.2 ∙ ap (λ n. height n s) p.2)

module _ (s : List ℕ) (count : ℕ) (h : checked_program s count ≡ passes) {A : Type 0} (m : Sense A) where
  -- the machine ends with one value, what is made of the tree: for `saying env`, what the tree says under the assignment
  pub passes_runs : Ends m s
  unfolding steps
  passes_runs =
      let w = passes_within s count h in
      let p : postfix (tree_of s) ++ [] ≡ s = append-nil (postfix (tree_of s)) ∙ passes_postfix s count h in
      rw p at (tree_steps count w.few m (tree_of s) [] [] w.below (omega (arith, w.small)))

  -- at every step it lacks neither value nor slot, and as many values stand as the rules count, whatever the assignment
  pub passes_stands : (i : ℕ) → (st : List A) × (steps m (take i s) [] ≡ stands st) × (length st ≡ height 0 (take i s))
  passes_stands i = steady_stands count m (take i s) [] (steady_front count (take i s) (drop i s) 0 (rw take-append-drop (passes_steady s count h)))
