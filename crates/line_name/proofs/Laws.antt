-- The laws of the name at a line's start. Assumes nothing.
use mathlib.Core.Path.{◌≡◌, refl, sym, ap, ◌∙◌}
use mathlib.Core.Bool.{Bool, true}
use mathlib.Core.List.{List}
use Prim.Native.Nat.{ℕ, ◌+◌, ◌≤◌, ◌<◌}
use native.Mathlib.Omega.{arith}
use borrow.Author.Tests.{lt-ltb, le-ltb}
use lib.ListN.{length}
use Rattle.cursor.proofs.Laws.{scan}
use Rattle.refusal.proofs.Numbers.{given_is}
use Rattle.text.proofs.Laws.{skip_on}
use Rattle.text.proofs.Reach.{skip_from}
use Rattle.refusal.specs.Answer.{Answer, good}
use Rattle.text.specs.Class.{is_space, is_alnum, is_name_byte}
use Rattle.refusal.specs.Refusal.{refusal, given}
use Rattle.text.specs.Scan.{skip, byte_at}
use Rattle.refusal.specs.declared.fault.Fault.TheVariants.{NameMissing}
use Rattle.refusal.specs.declared.fault.Refusal.{Refusal}
use Rattle.refusal.specs.declared.place.Span.{Span}
use Rattle.line_name.specs.Name.{name_from, name_at}

-- a name that starts has a byte
pub name_some : (s : List ℕ) (at stop : ℕ) (r : Bool) → at < length s → r ≡ is_alnum (byte_at s at) → r ≡ true → stop ≡ skip is_name_byte s at → at < stop
name_some s at stop r h test hit told =
    let start : is_alnum (byte_at s at) ≡ true = sym test ∙ hit in
    let name : is_name_byte (byte_at s at) ≡ true = rw start in
    rw told (omega (arith, skip_on is_name_byte s at 0 h name, skip_from is_name_byte s (at + 1)))

-- the name and the place behind it
pub read_is : (x y : Span) (m n : ℕ) → x ≡ y → m ≡ n → ◌≡◌ {A = Answer (Span × ℕ)} (good (x, m)) (good (y, n))
read_is x y m n e f = rw (e, f)

-- by whether a byte comes before the end
module _ (s : List ℕ) (first start : ℕ) (fresh : first ≡ 0) (spaces : start ≡ skip is_space s first) where
  from_start : start ≡ skip is_space s 0
  from_start = spaces ∙ ap (skip is_space s) fresh

  pub name_here : (z : Answer (Span × ℕ)) → start < length s → z ≡ name_from s start → z ≡ name_at s
  unfolding name_at
  name_here z h e = rw (← from_start, lt-ltb start (length s)) e

  pub name_missing : (why : Refusal) → length s ≤ start → why ≡ refusal NameMissing 0 1 → given why ≡ name_at s
  unfolding name_at
  name_missing why h made = rw (← from_start, le-ltb start (length s)) (given_is why NameMissing 0 0 1 3 made refl refl)

pub ruleset name = (name_some, read_is, name_here, name_missing, scan)
