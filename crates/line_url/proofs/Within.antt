-- A URL's end is the one place that the definition asks for, and lies within the line. Assumes nothing.
use mathlib.Core.Path.{◌≡◌, refl, sym, subst, ◌∙◌}
use mathlib.Core.Bool.{Bool, true, false, cond}
use mathlib.Core.List.{List}
use Prim.Native.Nat.{ℕ, zero, suc, ◌+◌, ◌-◌, ◌≤◌, ◌<◌}
use native.Mathlib.Omega.{arith}
use borrow.Author.Tests.{ltb-true}
use lib.Dec.{ltb}
use lib.ListN.{length}
use Rattle.text.proofs.Cases.{by_order}
use Rattle.text.proofs.Reach.{skip_from, skip_within}
use Rattle.refusal.specs.Answer.{Answer, good, refused}
use Rattle.text.specs.Class.{is_space}
use Rattle.refusal.specs.Refusal.{span}
use Rattle.text.specs.Scan.{skip}
use Rattle.refusal.specs.declared.place.Span.{Span}
use Rattle.line_url.proofs.Laws.{pass_to, end_here, end_last}
use Rattle.line_url.specs.Url.{marked_at, stops_at, first_from, url_end, goes_on, url_at}

-- no other place has no stop before it and is a stop or the end
pub url_end_is : (s : List ℕ) (start e : ℕ) → start ≤ e → e ≤ length s → ((k : ℕ) → start ≤ k → k < e → stops_at s k ≡ false) → (e < length s → stops_at s e ≡ true) → url_end s start ≡ e
url_end_is s start e l h out stop =
    sym (pass_to s start e l h out)
    ∙ by_order e (length s) (λ within. end_here s e within (stop within)) (λ last. end_last s e last)

first_between : (p : ℕ → Bool) (n at : ℕ) → (at ≤ first_from p n at) × (first_from p n at ≤ at + n)
unfolding first_from
first_between p zero at = (omega arith, omega arith)
first_between p (suc n) at = go (p at) (first_between p n (suc at))
  where
    go : (t : Bool) → (suc at ≤ first_from p n (suc at)) × (first_from p n (suc at) ≤ suc at + n) → (at ≤ cond t at (first_from p n (suc at))) × (cond t at (first_from p n (suc at)) ≤ at + suc n)
    go true r = (omega arith, omega arith)
    go false r = (omega (arith, r.0), omega (arith, r.1))

module _ (s : List ℕ) (start : ℕ) where
  pub end_from : start ≤ url_end s start
  unfolding url_end
  end_from = (first_between (stops_at s) (length s - start) start).0

  pub end_within : start ≤ length s → url_end s start ≤ length s
  unfolding url_end
  end_within h = omega (arith, (first_between (stops_at s) (length s - start) start).1)

on_between : (s : List ℕ) (end : ℕ) → end ≤ length s → (end ≤ goes_on s end) × (goes_on s end ≤ length s)
unfolding goes_on
on_between s end h = go (marked_at s end) (ltb end (length s)) (ltb-true end (length s))
  where
    go : (t u : Bool) → (u ≡ true → end < length s) → (end ≤ cond t end (cond u (end + 1) end)) × (cond t end (cond u (end + 1) end) ≤ length s)
    go true u f = (omega arith, h)
    go false true f = let l = f refl in (omega arith, omega arith)
    go false false f = (omega arith, h)

-- a URL starts at or after its place, is not empty, and reading goes on behind it, within the line
pub record Part (s : List ℕ) (at : ℕ) (x : Span) (next : ℕ) : Type 0 where
  pub from : at ≤ x.start.0
  pub some : 0 < x.len
  pub behind : x.start.0 + x.len ≤ next
  pub within : next ≤ length s

part_from : (s : List ℕ) (at start end : ℕ) → at ≤ start → end ≡ url_end s start → start ≤ length s → (t : Bool) → ltb start end ≡ t → (x : Span) (next : ℕ) → ◌≡◌ {A = Answer (Span × ℕ)} (cond {A = Answer (Span × ℕ)} t (good (span start (end - start), goes_on s end)) (refused 13 start 0)) (good (x, next)) → Part s at x next
part_from s at start end l e h false u x next f = let z : ◌≡◌ {A = ℕ} 0 1 = cc in absurd (omega arith)
part_from s at start end l e h true u x next f =
    let some = ltb-true start end u in
    let on = on_between s end (rw e (end_within s start h)) in
    let q : ◌≡◌ {A = Span × ℕ} (span start (end - start), goes_on s end) (x, next) = cc in
    subst (λ (r : Span × ℕ). Part s at r.0 r.1) q (record { from = l; some = omega arith; behind = omega (arith, on.0); within = on.1 })

pub url_part : (s : List ℕ) (at : ℕ) → at ≤ length s → (x : Span) (next : ℕ) → url_at s at ≡ good (x, next) → Part s at x next
unfolding url_at
url_part s at h x next e =
    let start = skip is_space s at in
    part_from s at start (url_end s start) (skip_from is_space s at) refl (skip_within is_space s at h) (ltb start (url_end s start)) refl x next e
