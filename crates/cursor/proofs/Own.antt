-- A result told by its place leaves one result. Assumes nothing.
use mathlib.Core.Path.{◌≡◌, ap}
use Prim.Native.Nat.{ℕ}
use Rattle.std.specs.Prelude.{Result, Ok, Err}
use Rattle.refusal.proofs.Numbers.{given_own}
use Rattle.refusal.specs.Refusal.{given}
use Rattle.refusal.specs.declared.fault.Refusal.{Refusal}
use Rattle.cursor.specs.Cursor.{cursor, told_at}
use Rattle.cursor.specs.declared.cursor.Cursor.{Cursor}

pub told_at_own : {A : Type 0} (v w : Result (A × Cursor) Refusal) → told_at v ≡ told_at w → v ≡ w
told_at_own {A} (Ok (a, m)) (Ok (b, n)) e =
    let p : ◌≡◌ {A = A × ℕ} (a, m.at) (b, n.at) = cc in
    ap (λ (q : A × ℕ). Ok (q.0, cursor q.1)) p
told_at_own (Ok (a, m)) (Err w) e = unfold given in cc
told_at_own (Err v) (Ok (b, n)) e = unfold given in cc
told_at_own (Err v) (Err w) e = ap Err (given_own v w e)
