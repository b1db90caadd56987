-- A list whose items end within the line ends within it, and not before its start. Assumes nothing.
use mathlib.Core.Path.{◌≡◌, refl}
use mathlib.Core.Bool.{Bool, true, false, cond}
use Prim.Native.Nat.{ℕ, zero, suc, ◌≤◌}
use native.Mathlib.Omega.{arith}
use Rattle.std.specs.Prelude.{Result, Ok, Err}
use Rattle.refusal.specs.Answer.{good}
use Rattle.refusal.specs.Refusal.{given}
use Rattle.refusal.specs.declared.fault.Fault.{Fault}
use Rattle.refusal.specs.declared.fault.Refusal.{Refusal}
use Rattle.spans.specs.Listing.{Listing, then, ends, fails, follow, list_from, outcome}
use Rattle.spans.specs.declared.item.Item.{Item}
use Rattle.spans.specs.declared.item.Item.TheVariants.{One, End}

-- from one place to another, both counted
pub record Between (low high at : ℕ) : Type 0 where
  pub from : low ≤ at
  pub to : at ≤ high

-- where an item leaves the reader
abbrev pub Leaves : ℕ → ℕ → Result Item Refusal → Type 0
Leaves low high (Ok (One x next)) = Between low high next.at
Leaves low high (Ok (End next)) = Between low high next.at
Leaves low high (Err why) = Unit {0}

-- by the tests of a definition
pub leaves_if : (low high : ℕ) (t : Bool) (x y : Result Item Refusal) → (t ≡ true → Leaves low high x) → (t ≡ false → Leaves low high y) → Leaves low high (cond t x y)
leaves_if low high true x y f g = f refl
leaves_if low high false x y f g = g refl

abbrev pub Ends : ℕ → ℕ → Listing → Type 0
Ends low high r = (e : ℕ) → outcome r ≡ good e → Between low high e

pub ends_at : (low high e : ℕ) → Between low high e → Ends low high (ends e)
unfolding outcome
ends_at low high e b f h = let p : e ≡ f = cc in rw (← p) b

pub fails_ends : (low high : ℕ) (why : Refusal) → Ends low high (fails why)
unfolding outcome given
fails_ends low high why e h = let z : ◌≡◌ {A = ℕ} 0 1 = cc in absurd (omega arith)

pub ends_from : (low start high : ℕ) (r : Listing) → low ≤ start → Ends start high r → Ends low high r
ends_from low start high r l f e h = let b = f e h in record { from = omega (arith, b.from); to = b.to }

pub ends_if : (low high : ℕ) (t : Bool) (x y : Listing) → (t ≡ true → Ends low high x) → (t ≡ false → Ends low high y) → Ends low high (cond t x y)
ends_if low high true x y f g = f refl
ends_if low high false x y f g = g refl

module _ (many : Fault) (item : Bool → ℕ → Result Item Refusal) (high : ℕ) (leaves : (fresh : Bool) (at : ℕ) → at ≤ high → Leaves at high (item fresh at)) where
  pub list_ends : (k : ℕ) (fresh : Bool) (at : ℕ) → at ≤ high → Ends at high (list_from many item k fresh at)
  unfolding list_from outcome
  list_ends zero fresh at h = go (item fresh at) (leaves fresh at h)
    where
      go : (i : Result Item Refusal) → Leaves at high i → Ends at high (follow i (λ x next. fails (record { fault = many; span = x })))
      go (Ok (One x next)) b = fails_ends at high (record { fault = many; span = x })
      go (Ok (End next)) b = ends_at at high next.at b
      go (Err why) b = fails_ends at high why
  list_ends (suc k) fresh at h = go (list_ends k false) (item fresh at) (leaves fresh at h)
    where
      go : ((at : ℕ) → at ≤ high → Ends at high (list_from many item k false at)) → (i : Result Item Refusal) → Leaves at high i → Ends at high (follow i (λ x next. then x (list_from many item k false next)))
      go again (Ok (One x next)) b =
          λ e f. let r = again next.at b.to e f in record { from = omega (arith, b.from, r.from); to = r.to }
      go again (Ok (End next)) b = ends_at at high next.at b
      go again (Err why) b = fails_ends at high why
