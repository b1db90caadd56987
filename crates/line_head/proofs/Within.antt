-- A marker starts within the line, behind its `;`. Assumes nothing.
use mathlib.Core.Path.{◌≡◌, refl}
use mathlib.Core.Bool.{Bool, true, false, cond}
use mathlib.Core.List.{List}
use Prim.Native.Nat.{ℕ, ◌+◌, ◌-◌, ◌≤◌}
use Prim.Native.Char.{code}
use native.Mathlib.Omega.{arith}
use borrow.Author.Tests.{ltb-true, eqb-true}
use lib.Dec.{ltb, eqb}
use lib.ListN.{length}
use Rattle.std.specs.Prelude.{Option, Some, None}
use Rattle.refusal.specs.Answer.{Answer, good, refused, on_good, and_then}
use Rattle.text.specs.Class.{is_space}
use Rattle.cursor.specs.Cursor.{cursor}
use Rattle.cursor.specs.declared.cursor.Cursor.{Cursor}
use Rattle.text.specs.Scan.{skip, byte_at}
use Rattle.spans.specs.Listing.{counted}
use Rattle.line_extras.specs.Extras.{extras_at}
use Rattle.line_name.specs.Name.{name_at}
use Rattle.line_head.specs.Head.{tail_at, wanted_at, head_of, from_tail, from_wanted, from_extras, head}
use Rattle.line_head.specs.declared.part.Head.{Head}

-- where a marker starts
pub record Starts (s : List ℕ) (at : ℕ) : Type 0 where
  pub within : at ≤ length s
  pub behind : byte_at s (at - 1) ≡ code ";"

abbrev pub StartsIn : List ℕ → Option Cursor → Type 0
StartsIn s None = Unit {0}
StartsIn s (Some c) = Starts s c.at

-- a fact of what an answer holds
abbrev pub On : {A : Type 0} → (A → Type 0) → Answer A → Type 0
On P (good a) = P a
On P (refused number start len) = Unit {0}

pub on_then : {A B : Type 0} (P : A → Type 0) (Q : B → Type 0) (a : Answer A) (f : A → Answer B) → On P a → ((x : A) → P x → On Q (f x)) → On Q (and_then a f)
on_then P Q (good x) f p h = h x p
on_then P Q (refused number start len) f p h = tt

-- a fact that always holds
abbrev Any : {A : Type 0} → A → Type 0
Any a = Unit {0}

on_any : {A : Type 0} (a : Answer A) → On Any a
on_any (good x) = tt
on_any (refused number start len) = tt

pub on_good_lem : {A B : Type 0} (P : A → Type 0) (Q : B → Type 0) (f : A → B) (a : Answer A) → ((x : A) → P x → Q (f x)) → On P a → On Q (on_good f a)
on_good_lem P Q f (good x) h p = h x p
on_good_lem P Q f (refused number start len) h p = tt

tail_starts : (s : List ℕ) (at : ℕ) → On (StartsIn s) (tail_at s at)
unfolding tail_at
tail_starts s at = go (ltb at (length s)) (eqb (byte_at s at) (code ";")) refl refl
  where
    go : (t u : Bool) → ltb at (length s) ≡ t → eqb (byte_at s at) (code ";") ≡ u → On (StartsIn s) (cond t (cond u (good (Some (cursor (at + 1)))) (refused 17 at 1)) (good None))
    go true true p q =
        let l = ltb-true at (length s) p in
        let b : at + 1 - 1 ≡ at = omega arith in
        record { within = omega arith; behind = rw b (eqb-true (byte_at s at) (code ";") q) }
    go true false p q = tt
    go false u p q = tt

abbrev HeadStarts : List ℕ → Head → Type 0
HeadStarts s h = StartsIn s h.marker

pub marker_starts : (s : List ℕ) → On (HeadStarts s) (head s)
unfolding head from_extras from_wanted from_tail
marker_starts s =
    on_then Any (HeadStarts s) (name_at s) _ (on_any (name_at s))
    (λ n _. on_then Any (HeadStarts s) (counted (extras_at s (skip is_space s n.1))) _ (on_any (counted (extras_at s (skip is_space s n.1))))
    (λ e _. on_then Any (HeadStarts s) (wanted_at s (skip is_space s e.1)) _ (on_any (wanted_at s (skip is_space s e.1)))
    (λ w _. on_good_lem (StartsIn s) (HeadStarts s) (λ tail. head_of n.0 e.0 w.0 tail) (tail_at s (skip is_space s w.1)) (λ t p. p) (tail_starts s (skip is_space s w.1)))))
