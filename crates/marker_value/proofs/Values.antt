-- A value ends behind its start and within the line, and a quoted one lies within the line. Assumes nothing.
use mathlib.Core.Path.{◌≡◌, refl, ap}
use mathlib.Core.Bool.{Bool, true, false, cond}
use mathlib.Core.List.{List}
use Prim.Native.Nat.{ℕ, ◌+◌, ◌-◌, ◌≤◌, ◌<◌}
use native.Mathlib.Omega.{arith}
use borrow.Author.Tests.{ltb-true, eqb-true}
use lib.Dec.{ltb, eqb}
use lib.ListN.{length, drop}
use Rattle.cursor.specs.Cursor.{cursor}
use Rattle.cursor.specs.declared.cursor.Cursor.{Cursor}
use Rattle.std.specs.Prelude.{Option, Some, None, Result, Ok, Err}
use Rattle.refusal.specs.Refusal.{span, refusal}
use Rattle.refusal.specs.declared.fault.Fault.TheVariants.{ValueMissing, ExpectedFoundEnd}
use Rattle.refusal.specs.declared.fault.Refusal.{Refusal}
use Rattle.refusal.specs.declared.place.Span.{Span}
use Rattle.std.proofs.lemmas.Bool.{and_parts}
use Rattle.text.proofs.Reach.{skip_from, skip_within}
use Rattle.text.specs.Class.{is_quote, is_other, is_token_byte}
use Rattle.text.specs.Scan.{skip, byte_at}
use Rattle.text.specs.Word.{bytes, begins, spells}
use Rattle.marker_value.specs.Value.{ValueInside, last_name_in, string_name_in, version_name_in, took_name, named_at, quoted_at, value_at}
use Rattle.marker_value.specs.declared.value.Value.{Value}

-- a name that was found is not empty, and is no quoted value
module _ (s : List ℕ) (at : Span) where
  abbrev Sound : Option Value → Type 0
  Sound (Some value) = (0 < at.len) × ValueInside s value
  Sound None = Unit {0}

  tried : (word : List ℕ) (found next : Option Value) → 0 < length word → (0 < at.len → Sound found) → Sound next → Sound (cond (spells word s at) found next)
  tried word found next some hit miss = go (spells word s at) refl
    where
      go : (t : Bool) → spells word s at ≡ t → Sound (cond t found next)
      go true h = hit (omega (arith, eqb-true at.len (length word) (and_parts (eqb at.len (length word)) (begins word (drop at.start.0 s)) h).0))
      go false h = miss

  names_sound : Sound (version_name_in s at)
  unfolding version_name_in string_name_in last_name_in
  names_sound =
      tried (bytes "python_version") _ _ (omega arith) (λ l. (l, tt))
      (tried (bytes "python_full_version") _ _ (omega arith) (λ l. (l, tt))
      (tried (bytes "implementation_version") _ _ (omega arith) (λ l. (l, tt))
      (tried (bytes "os_name") _ _ (omega arith) (λ l. (l, tt))
      (tried (bytes "sys_platform") _ _ (omega arith) (λ l. (l, tt))
      (tried (bytes "platform_release") _ _ (omega arith) (λ l. (l, tt))
      (tried (bytes "platform_system") _ _ (omega arith) (λ l. (l, tt))
      (tried (bytes "platform_version") _ _ (omega arith) (λ l. (l, tt))
      (tried (bytes "platform_machine") _ _ (omega arith) (λ l. (l, tt))
      (tried (bytes "platform_python_implementation") _ _ (omega arith) (λ l. (l, tt))
      (tried (bytes "implementation_name") _ _ (omega arith) (λ l. (l, tt))
      (tried (bytes "extra") _ _ (omega arith) (λ l. (l, tt))
      tt)))))))))))

-- where a value ends
pub record Placed (s : List ℕ) (at : ℕ) (value : Value) (next : Cursor) : Type 0 where
  pub behind : at < next.at
  pub within : next.at ≤ length s
  pub inside : ValueInside s value

module _ (s : List ℕ) (at : ℕ) (value : Value) (next : Cursor) (here : at < length s) where
  named_placed : named_at s at ≡ Ok (value, next) → Placed s at value next
  unfolding named_at
  named_placed e = go (version_name_in s (span at (skip is_token_byte s at - at))) (names_sound s (span at (skip is_token_byte s at - at))) e
    where
      go : (found : Option Value) → Sound s (span at (skip is_token_byte s at - at)) found → took_name found at (skip is_token_byte s at) ≡ Ok (value, next) → Placed s at value next
      go (Some v) sound h =
          let taken : ◌≡◌ {A = Value × Cursor} (v, cursor (skip is_token_byte s at)) (value, next) = cc in
          let same : v ≡ value = ap (λ (p : Value × Cursor). p.0) taken in
          let place : cursor (skip is_token_byte s at) ≡ next = ap (λ (p : Value × Cursor). p.1) taken in
          rw (← place, ← same) (record {
            behind = omega (arith, sound.0);
            within = skip_within is_token_byte s at (omega arith);
            inside = sound.1;
          })
      go None sound h = let z : ◌≡◌ {A = ℕ} 0 1 = cc in absurd (omega arith)

  quoted_placed : quoted_at s at ≡ Ok (value, next) → Placed s at value next
  unfolding quoted_at
  quoted_placed e = go (ltb close (length s)) refl e
    where
      close : ℕ
      close = skip (is_other (byte_at s at)) s (at + 1)

      go : (t : Bool) → ltb close (length s) ≡ t → cond {A = Result (Value × Cursor) Refusal} t (Ok (Value.Quoted (span (at + 1) (close - (at + 1))), cursor (close + 1))) (Err (refusal ExpectedFoundEnd at 1)) ≡ Ok (value, next) → Placed s at value next
      go true l h =
          let taken : ◌≡◌ {A = Value × Cursor} (Value.Quoted (span (at + 1) (close - (at + 1))), cursor (close + 1)) (value, next) = cc in
          let same : Value.Quoted (span (at + 1) (close - (at + 1))) ≡ value = ap (λ (p : Value × Cursor). p.0) taken in
          let place : cursor (close + 1) ≡ next = ap (λ (p : Value × Cursor). p.1) taken in
          let from = skip_from (is_other (byte_at s at)) s (at + 1) in
          let low = ltb-true close (length s) l in
          rw (← place, ← same) (record { behind = omega arith; within = omega arith; inside = omega arith })
      go false l h = let z : ◌≡◌ {A = ℕ} 0 1 = cc in absurd (omega arith)

pub value_placed : (s : List ℕ) (at : ℕ) (value : Value) (next : Cursor) → value_at s at ≡ Ok (value, next) → Placed s at value next
unfolding value_at
value_placed s at value next e = go (ltb at (length s)) (is_quote (byte_at s at)) refl e
  where
    go : (t u : Bool) → ltb at (length s) ≡ t → cond {A = Result (Value × Cursor) Refusal} t (cond u (quoted_at s at) (named_at s at)) (Err (refusal ValueMissing (length s) 1)) ≡ Ok (value, next) → Placed s at value next
    go true true l h = quoted_placed s at value next (ltb-true at (length s) l) h
    go true false l h = named_placed s at value next (ltb-true at (length s) l) h
    go false u l h = let z : ◌≡◌ {A = ℕ} 0 1 = cc in absurd (omega arith)
