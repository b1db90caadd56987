-- A name ends within the line, and is not empty. Assumes nothing.
use mathlib.Core.Path.{◌≡◌, refl, subst}
use mathlib.Core.Bool.{Bool, true, false, cond}
use mathlib.Core.List.{List}
use Prim.Native.Nat.{ℕ, ◌+◌, ◌-◌, ◌≤◌, ◌<◌}
use native.Mathlib.Omega.{arith}
use borrow.Author.Tests.{ltb-true}
use lib.Dec.{ltb}
use lib.ListN.{length}
use Rattle.text.proofs.Reach.{skip_within}
use Rattle.refusal.specs.Answer.{Answer, good, refused}
use Rattle.text.specs.Class.{is_space, is_alnum, is_separator, is_name_byte}
use Rattle.refusal.specs.Refusal.{span}
use Rattle.text.specs.Scan.{skip, byte_at}
use Rattle.refusal.specs.declared.place.Span.{Span}
use Rattle.line_name.proofs.Laws.{name_some}
use Rattle.line_name.specs.Name.{name_to, name_from, name_at}

-- its span is a part of the line that ends where reading goes on
pub record Part (s : List ℕ) (x : Span) (next : ℕ) : Type 0 where
  pub some : 0 < x.len
  pub end : x.start.0 + x.len ≡ next
  pub within : next ≤ length s

abbrev pub Parts : List ℕ → Answer (Span × ℕ) → Type 0
Parts s a = (x : Span) (next : ℕ) → a ≡ good (x, next) → Part s x next

parts_if : (s : List ℕ) (t : Bool) (a b : Answer (Span × ℕ)) → (t ≡ true → Parts s a) → (t ≡ false → Parts s b) → Parts s (cond t a b)
parts_if s true a b f g = f refl
parts_if s false a b f g = g refl

parts_refused : (s : List ℕ) (number start len : ℕ) → Parts s (refused number start len)
parts_refused s number start len x next e = let z : ◌≡◌ {A = ℕ} 0 1 = cc in absurd (omega arith)

parts_good : (s : List ℕ) (y : Span) (n : ℕ) → Part s y n → Parts s (good (y, n))
parts_good s y n p x next e =
    let q : ◌≡◌ {A = Span × ℕ} (y, n) (x, next) = cc in
    subst (λ (r : Span × ℕ). Part s r.0 r.1) q p

pub name_part : (s : List ℕ) → Parts s (name_at s)
unfolding name_at
name_part s =
    let start = skip is_space s 0 in
    let stop = skip is_name_byte s start in
    parts_if s (ltb start (length s)) (name_from s start) (refused 3 0 1)
    (λ t. let h : start < length s = ltb-true start (length s) t in
    parts_if s (is_alnum (byte_at s start)) (name_to s start stop) (refused 4 start 1)
    (λ u. let some : start < stop = name_some s start stop (is_alnum (byte_at s start)) h refl u refl in
    parts_if s (is_separator (byte_at s (stop - 1))) (refused 5 (stop - 1) 1) (good (span start (stop - start), stop))
    (λ _. parts_refused s 5 (stop - 1) 1)
    (λ _. parts_good s (span start (stop - start)) stop (record { some = omega arith; end = omega arith; within = skip_within is_name_byte s start (omega arith) })))
    (λ _. parts_refused s 4 start 1))
    (λ _. parts_refused s 3 0 1)
