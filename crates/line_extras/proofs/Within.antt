-- Extras that are read at a place end within the line, and not before that place. Assumes nothing.
use mathlib.Core.Path.{refl}
use mathlib.Core.Bool.{Bool, true}
use mathlib.Core.List.{List}
use Prim.Native.Nat.{ℕ, ◌+◌, ◌-◌, ◌≤◌, ◌<◌}
use Prim.Native.Char.{code}
use native.Mathlib.Omega.{arith}
use borrow.Author.Tests.{ltb-true}
use lib.Dec.{ltb, eqb}
use lib.ListN.{length}
use Rattle.text.proofs.Places.{byte_lt}
use Rattle.text.proofs.Reach.{skip_from, skip_within}
use Rattle.text.specs.Class.{is_space, is_alnum, is_separator, is_name_byte}
use Rattle.text.specs.Scan.{skip, byte_at}
use Rattle.refusal.specs.declared.fault.Fault.TheVariants.{ExtrasMany}
use Rattle.spans.proofs.Within.{Between, Leaves, Ends, leaves_if, ends_at, ends_from, ends_if, list_ends}
use Rattle.spans.specs.Listing.{list_from}
use Rattle.line_extras.specs.Extra.{stranger_at, extra_at, item_at}
use Rattle.line_extras.specs.Extras.{extras_at}
use Rattle.cursor.specs.Limits.{max_list}

extra_leaves : (s : List ℕ) (low at : ℕ) → low ≤ at → at ≤ length s → Leaves low (length s) (extra_at s at)
extra_leaves s low at from h =
    let stop = skip is_name_byte s at in
    let next : Between low (length s) (skip is_space s stop) = record {
      from = omega (arith, skip_from is_name_byte s at, skip_from is_space s stop);
      to = skip_within is_space s stop (skip_within is_name_byte s at h);
    } in
    leaves_if low (length s) (is_alnum (byte_at s at)) _ _
    (λ _. leaves_if low (length s) (stranger_at s stop) _ _ (λ _. tt)
    (λ _. leaves_if low (length s) (is_separator (byte_at s (stop - 1))) _ _ (λ _. tt) (λ _. next)))
    (λ _. tt)

item_leaves : (s : List ℕ) (bracket : ℕ) (fresh : Bool) (at : ℕ) → at ≤ length s → Leaves at (length s) (item_at s bracket fresh at)
unfolding item_at
item_leaves s bracket fresh at h =
    let past = skip is_space s (at + 1) in
    leaves_if at (length s) (ltb at (length s)) _ _
    (λ t. let l : at < length s = ltb-true at (length s) t in
    leaves_if at (length s) (eqb (byte_at s at) (code "]")) _ _
    (λ _. record { from = omega arith; to = omega arith })
    (λ _. leaves_if at (length s) fresh _ _
    (λ _. leaves_if at (length s) (eqb (byte_at s at) (code ",")) _ _ (λ _. tt) (λ _. extra_leaves s at at (omega arith) h))
    (λ _. leaves_if at (length s) (eqb (byte_at s at) (code ",")) _ _
    (λ _. leaves_if at (length s) (ltb past (length s)) _ _
    (λ _. extra_leaves s at past (omega (arith, skip_from is_space s (at + 1))) (skip_within is_space s (at + 1) (omega arith)))
    (λ _. tt))
    (λ _. tt))))
    (λ _. tt)

pub extras_end : (s : List ℕ) (at : ℕ) → at ≤ length s → Ends at (length s) (extras_at s at)
unfolding extras_at
extras_end s at h =
    let from = skip is_space s (at + 1) in
    ends_if at (length s) (eqb (byte_at s at) (code "[")) _ _
    (λ t. let l : at < length s = byte_lt s at (λ (b : ℕ). eqb b (code "[")) refl t in
    ends_from at from (length s) (list_from ExtrasMany (item_at s at) max_list true from) (omega (arith, skip_from is_space s (at + 1)))
    (list_ends ExtrasMany (item_at s at) (length s) (item_leaves s at) max_list true from (skip_within is_space s (at + 1) (omega arith))))
    (λ _. ends_at at (length s) at (record { from = omega arith; to = h }))
