-- What is known of text that is gathered on its way out.
use Rattle.std.specs.Prelude.{◌≡◌, ℕ, ◌+◌, ◌≤◌, Bool, true, false, List, [], ◌++◌, length, refl}
use Rattle.std.specs.Coded.{Coded, code_by, coded×, coded_list, coded_ℕ, coded_bool}

-- the bytes that wait to be written out, and whether a write failed
pub record Gathered : Type 0 where
  pub bytes : List ℕ
  pub broken : Bool

-- it is stored as the tuple of its fields
abbrev pub gathered_code : Coded Gathered
gathered_code =
    code_by (List ℕ × Bool) (coded× (coded_list coded_ℕ) coded_bool)
    (λ g. (g.bytes, g.broken)) (λ p. record { bytes = p.0; broken = p.1 }) (λ _. refl)

-- behind `more` bytes: those that wait are the last of all that came; none has left while they find room; and all are dropped once a write failed
pub record Gathers (old : Gathered) (more : List ℕ) (new : Gathered) : Type 0 where
  pub last : (gone : List ℕ) × (old.bytes ++ more ≡ gone ++ new.bytes)
  pub whole : old.broken ≡ false → length old.bytes + length more ≤ 65536 → (new.bytes ≡ old.bytes ++ more) × (new.broken ≡ false)
  pub dropped : old.broken ≡ true → (new.bytes ≡ []) × (new.broken ≡ true)
