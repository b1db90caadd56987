-- Specifiers that are read at a place end within the line, and not before that place. Assumes nothing.
use mathlib.Core.Path.{◌≡◌, refl}
use mathlib.Core.Bool.{Bool, true}
use mathlib.Core.List.{List}
use Prim.Native.Nat.{ℕ, ◌+◌, ◌-◌, ◌≤◌, ◌<◌}
use Prim.Native.Char.{code}
use native.Mathlib.Omega.{arith}
use lib.Dec.{ltb, eqb}
use lib.ListN.{length, take, drop}
use Rattle.std.specs.Prelude.{Result, Ok}
use Rattle.text.proofs.Places.{byte_lt}
use Rattle.text.proofs.Reach.{skip_from, skip_within}
use Rattle.text.specs.Class.{is_space, is_operator_byte, is_bare_byte, is_enclosed_byte}
use Rattle.text.specs.Scan.{skip, byte_at}
use Rattle.cursor.specs.declared.cursor.Cursor.{Cursor}
use Rattle.refusal.specs.declared.fault.Fault.TheVariants.{SpecifiersMany}
use Rattle.refusal.specs.declared.fault.Refusal.{Refusal}
use Rattle.refusal.specs.declared.place.Span.{Span}
use Rattle.spans.proofs.Within.{Between, Leaves, Ends, leaves_if, ends_at, ends_from, ends_if, list_ends}
use Rattle.spans.specs.declared.item.Item.{Item}
use Rattle.spans.specs.declared.item.Item.TheVariants.{One}
use Rattle.version.specs.Rules.{is_specifier}
use Rattle.line_specifiers.specs.Specifier.{text_to, text_at, item_at}
use Rattle.line_specifiers.specs.Specifiers.{texts_from, bare_at, specifiers_at}
use Rattle.line_specifiers.specs.declared.specifier.Form.{Form}
use Rattle.line_specifiers.specs.declared.specifier.Form.TheVariants.{Bare, Enclosed}
use Rattle.cursor.specs.Limits.{max_list}

module _ (s : List ℕ) where
  to_leaves : (low from stop : ℕ) → low ≤ stop → stop ≤ length s → Leaves low (length s) (text_to s from stop)
  unfolding text_to
  to_leaves low from stop l h =
      leaves_if low (length s) (is_specifier (take (stop - from) (drop from s))) _ _ (λ _. record { from = l; to = h }) (λ _. tt)

  text_leaves : (form : Form) (low from : ℕ) → low ≤ from → from ≤ length s → Leaves low (length s) (text_at s form from)
  text_leaves Bare low from l h =
      to_leaves low from (skip is_bare_byte s from) (omega (arith, skip_from is_bare_byte s from)) (skip_within is_bare_byte s from h)
  text_leaves (Enclosed bracket) low from l h =
      let stop = skip is_enclosed_byte s from in
      leaves_if low (length s) (ltb stop (length s)) _ _
      (λ _. to_leaves low from stop (omega (arith, skip_from is_enclosed_byte s from)) (skip_within is_enclosed_byte s from h))
      (λ _. tt)

  pub item_leaves : (form : Form) (fresh : Bool) (at : ℕ) → at ≤ length s → Leaves at (length s) (item_at s form fresh at)
  unfolding item_at
  item_leaves form fresh at h =
      leaves_if at (length s) fresh _ _
      (λ _. text_leaves form at at (omega arith) h)
      (λ _. leaves_if at (length s) (eqb (byte_at s at) (code ",")) _ _
      (λ t. let l : at < length s = byte_lt s at (λ (b : ℕ). eqb b (code ",")) refl t in text_leaves form at (at + 1) (omega arith) (omega arith))
      (λ _. leaves_if at (length s) (eqb (byte_at s at) (code ")")) _ _
      (λ t. let l : at < length s = byte_lt s at (λ (b : ℕ). eqb b (code ")")) refl t in record { from = omega arith; to = omega arith })
      (λ _. record { from = omega arith; to = h })))

  texts_end : (form : Form) (from : ℕ) → from ≤ length s → Ends from (length s) (texts_from s form from)
  texts_end form from h = list_ends SpecifiersMany (item_at s form) (length s) (item_leaves form) max_list true from h

  bare_end : (at : ℕ) → at ≤ length s → Ends at (length s) (bare_at s at)
  unfolding bare_at
  bare_end at h =
      ends_if at (length s) (is_operator_byte (byte_at s at)) _ _
      (λ _. texts_end Bare at h)
      (λ _. ends_at at (length s) at (record { from = omega arith; to = h }))

  pub specifiers_end : (at : ℕ) → at ≤ length s → Ends at (length s) (specifiers_at s at)
  unfolding specifiers_at
  specifiers_end at h =
      let from = skip is_space s (at + 1) in
      ends_if at (length s) (eqb (byte_at s at) (code "(")) _ _
      (λ t. let l : at < length s = byte_lt s at (λ (b : ℕ). eqb b (code "(")) refl t in
      ends_from at from (length s) (texts_from s (Enclosed at) from) (omega (arith, skip_from is_space s (at + 1)))
      (texts_end (Enclosed at) from (skip_within is_space s (at + 1) (omega arith))))
      (λ _. bare_end at h)

-- so the reading stays within the line
pub text_next : (s : List ℕ) (form : Form) (fresh : Bool) (at : ℕ) (x : Span) (next : Cursor) → at ≤ length s → ◌≡◌ {A = Result Item Refusal} (Ok (One x next)) (item_at s form fresh at) → next.at ≤ length s
text_next s form fresh at x next h made =
    let b : Between at (length s) next.at = rw (← made) at (item_leaves s form fresh at h) in
    b.to
