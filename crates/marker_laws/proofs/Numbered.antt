-- Kept comparisons are numbered from 0 as read, and each number stands exactly once in the program. Assumes nothing.
use Prim.Native.Nat.{ℕ, ◌+◌, ◌≤◌}
use mathlib.Core.Bool.{Bool, true, false, cond}
use mathlib.Core.List.{List, [], ◌∷◌, ◌++◌, append-nil}
use mathlib.Core.Path.{◌≡◌, refl, sym, ap}
use native.Mathlib.Omega.{arith}
use borrow.Author.Tests.{le-ltb, lt-ltb}
use lib.ListN.{length, length-append}
use Rattle.marker_verdict.specs.declared.verdict.Verdict.{Verdict}
use Rattle.marker_verdict.specs.declared.verdict.Verdict.TheVariants.{Kept, KeptWarned, Ignored, IgnoredTwice}
use Rattle.marker_laws.proofs.Meaning.{kept_few}
use Rattle.marker_cycle.proofs.Emit.{nk, one}
use Rattle.marker_cycle.proofs.Held.{words_count}
use Rattle.marker_cycle.proofs.Whole.{none_words}
use Rattle.marker_steps.specs.Grammar.{Tree, compared, both, either, group, kept_in, kept_of, got, parse_from}
use Rattle.marker_steps.specs.Marking.{some, push, joint, words_from, program}
use Rattle.program_check.specs.Check.{places}
use Rattle.program_check.specs.Word.{pushes_in}
use Rattle.program_laws.proofs.Numbers.{pushes_append, places_append}

joint_pushes : (x y : Bool) (v : ℕ) → 64 ≤ v → pushes_in (joint x y v) ≡ []
unfolding pushes_in
joint_pushes true true v h = rw (le-ltb v 64 h)
joint_pushes true false v h = refl
joint_pushes false y v h = refl

in_pushes : (n : ℕ) (v : Verdict) → n + length (kept_in v) ≤ 64 → pushes_in (push v n) ≡ places n (length (kept_in v))
unfolding pushes_in
in_pushes n (Kept c) h = rw (lt-ltb n 64 (omega arith))
in_pushes n (KeptWarned c) h = rw (lt-ltb n 64 (omega arith))
in_pushes n (Ignored kind) h = refl
in_pushes n (IgnoredTwice kind) h = refl

two_sides : (a b w j : List ℕ) (n p q : ℕ) → pushes_in a ≡ places n p → pushes_in b ≡ places (n + p) q → pushes_in j ≡ [] → w ≡ a ++ (b ++ j) → pushes_in w ≡ places n (p + q)
two_sides a b w j n p q ea eb ej ew =
    rw (ew, pushes_append a (b ++ j), pushes_append b j, ea, eb, ej, append-nil (places (n + p) q)) (sym (places_append n p q))

-- the numbers in the words of a tree, in their order: as many as it keeps, from its first
words_numbered : (n : ℕ) (t : Tree) → n + nk t ≤ 64 → pushes_in (words_from n t) ≡ places n (nk t)
unfolding words_from kept_of
words_numbered n (compared v x) h = in_pushes n v h
words_numbered n (both a b) h =
    let l = length-append (kept_of a) (kept_of b) in
    rw l
    (two_sides (words_from n a) (words_from (n + nk a) b) (words_from n (both a b)) (joint (some a) (some b) 64) n (nk a) (nk b)
    (words_numbered n a (omega arith)) (words_numbered (n + nk a) b (omega arith)) (joint_pushes (some a) (some b) 64 (omega arith)) refl)
words_numbered n (either a b) h =
    let l = length-append (kept_of a) (kept_of b) in
    rw l
    (two_sides (words_from n a) (words_from (n + nk a) b) (words_from n (either a b)) (joint (some a) (some b) 65) n (nk a) (nk b)
    (words_numbered n a (omega arith)) (words_numbered (n + nk a) b (omega arith)) (joint_pushes (some a) (some b) 65 (omega arith)) refl)
words_numbered n (group a) h = words_numbered n a h

-- of an accepted marker: the comparison numbers of its program, in their order, are 0, 1, .. up to its count of kept comparisons, so each
-- stands exactly once
pub program_numbered : (s : List ℕ) (at : ℕ) (t : Tree) (e : ℕ) → parse_from s at ≡ got t e → pushes_in (program t) ≡ places 0 (length (kept_of t))
unfolding program pushes_in
program_numbered s at t e read = go (some t) refl
  where
    few : nk t ≤ 64
    few = kept_few s at t e read

    go : (b : Bool) → some t ≡ b → pushes_in (cond b (words_from 0 t) (66 ∷ [])) ≡ places 0 (nk t)
    go true eb = words_numbered 0 t (omega (arith, few))
    go false eb =
        let n : nk t ≡ 0 = omega (arith, words_count 0 t, ap length (none_words 0 t eb), ap one eb) in
        rw n
