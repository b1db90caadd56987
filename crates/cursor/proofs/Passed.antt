-- What a `?` hands on, as an answer: the refusal that the call before it made, whatever else the answer would hold. Assumes nothing.
use mathlib.Core.Path.{◌≡◌}
use Prim.Native.Nat.{ℕ}
use Rattle.std.specs.Prelude.{Result}
use Rattle.std.specs.Result.{IsErrAnd}
use Rattle.std.proofs.lemmas.Result.{err_from_is_err_and}
use Rattle.refusal.specs.Answer.{Answer, on_good}
use Rattle.refusal.specs.Refusal.{given, told}
use Rattle.refusal.specs.declared.fault.Refusal.{Refusal}
use Rattle.cursor.specs.Cursor.{told_at}
use Rattle.cursor.specs.declared.cursor.Cursor.{Cursor}

pub told_passed : {A : Type 0} (r : Result A Refusal) (why : Refusal) (z : Answer A) → IsErrAnd r (λ e. e ≡ why) → given why ≡ z → told r ≡ z
told_passed r why z h made = let out = err_from_is_err_and r h in rw (out.1, out.2) made

pub told_at_passed : {A : Type 0} (r : Result (A × Cursor) Refusal) (why : Refusal) (z : Answer (A × ℕ)) → IsErrAnd r (λ e. e ≡ why) → given why ≡ z → told_at r ≡ z
told_at_passed r why z h made = let out = err_from_is_err_and r h in rw (out.1, out.2) made

pub refused_on : {A B : Type 0} (f : A → B) (why : Refusal) (a : Answer A) → given why ≡ a → given {A = B} why ≡ on_good f a
unfolding given
refused_on f why a e = rw (← e)

pub ruleset passed = (told_passed, told_at_passed)
