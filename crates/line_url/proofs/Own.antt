-- The contract in document 01's terms leaves one answer. Assumes nothing.
use mathlib.Core.Path.{◌≡◌}
use Rattle.std.specs.Prelude.{Result}
use Rattle.refusal.specs.declared.fault.Refusal.{Refusal}
use Rattle.refusal.specs.declared.place.Span.{Span}
use Rattle.cursor.proofs.Own.{told_at_own}
use Rattle.cursor.specs.Cursor.{told_at}
use Rattle.cursor.specs.declared.cursor.Cursor.{Cursor}

pub told_own : (v w : Result (Span × Cursor) Refusal) → told_at v ≡ told_at w → v ≡ w
told_own = told_at_own
