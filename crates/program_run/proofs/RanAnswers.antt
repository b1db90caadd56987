-- What is proved of the runner's answer. Assumes nothing.
use mathlib.Core.Path.{◌≡◌, refl, ap}
use mathlib.Core.Bool.{Bool}
use mathlib.Core.List.{List, [], ◌∷◌}
use Prim.Native.Nat.{ℕ, ◌<◌}
use Rattle.refusal.specs.Answer.{Answer, good, refused, on_good, passes}
use Rattle.refusal.specs.Refusal.{given, told}
use Rattle.refusal.specs.declared.fault.Refusal.{Refusal}
use Rattle.std.specs.Prelude.{Result, Err}
use Rattle.std.specs.Result.{IsErrAnd}
use Rattle.std.proofs.lemmas.Result.{err_from_is_err_and}
use Rattle.program_check.specs.Check.{checked_program}
use Rattle.program_check.specs.Tree.{Tree, postfix, saying, value, Within, tree_of}
use Rattle.program_laws.proofs.Meaning.{tree_own, within_passes, passes_within, fold_below}
use Rattle.program_run.proofs.Passing.{passes_runs}
use Rattle.program_run.specs.Machine.{stands, steps}
use Rattle.program_run.specs.Run.{bit, ran}

-- a refusal of the check, handed on
pub run_refused : (s : List ℕ) (count assignment : ℕ) (k : Result (Unit {0}) Refusal) → told k ≡ checked_program s count → (why : Refusal) (z : Result Bool Refusal) → k ≡ Err why → IsErrAnd z (λ e. e ≡ why) → told z ≡ ran s count assignment
unfolding given
run_refused s count assignment k made why z e passed = let out = err_from_is_err_and z passed in rw (out.1, out.2, ← made, e)

-- the runner's answer for a tree's program is the tree's value
pub within_ran : (t : Tree) (count assignment : ℕ) → Within t count → ran (postfix t) count assignment ≡ good (value (bit assignment) t)
within_ran t count assignment w = rw (within_passes t count w, tree_own t count w.few w.below)

-- and the one value that the machine ends with
pub passes_ran : (s : List ℕ) (count assignment : ℕ) (v : Bool) → checked_program s count ≡ passes → steps (saying (bit assignment)) s [] ≡ stands (v ∷ []) → ran s count assignment ≡ good v
passes_ran s count assignment v h e = let p = passes_runs s count h (saying (bit assignment)) in rw h (ap good (cc))

-- "bits at or above the count have no effect"
pub ran_below : (s : List ℕ) (count a b : ℕ) → ((k : ℕ) → k < count → bit a k ≡ bit b k) → ran s count a ≡ ran s count b
ran_below s count a b same = go (checked_program s count) refl
  where
    go : (z : Answer (Unit {0})) → checked_program s count ≡ z → on_good (λ ok. value (bit a) (tree_of s)) z ≡ on_good (λ ok. value (bit b) (tree_of s)) z
    go (good x) e = ap good (fold_below (tree_of s) count (saying (bit a)) (bit b) (passes_within s count e).below same)
    go (refused n at l) e = refl
