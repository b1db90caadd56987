-- `plain` is a paraphrase of the given source's `parse_url`, byte by byte with its look-ahead, written from the source by hand: it finds the same end and goes on at the same place as
-- the definition. That the given Rust does what `plain` says is not proved. Assumes nothing.
use mathlib.Core.Path.{◌≡◌, refl, sym, ap, ◌∙◌}
use mathlib.Core.Bool.{Bool, true, false, cond, ◌&&◌, ◌||◌, true≢false}
use mathlib.Core.List.{List}
use Prim.Native.Nat.{ℕ, zero, suc, ◌+◌, ◌-◌, ◌≤◌, ◌<◌}
use native.Mathlib.Omega.{arith}
use native.Mathlib.Numerals.{add-one}
use borrow.Author.Tests.{lt-ltb, le-ltb, eqb-true}
use lib.Dec.{eqb}
use lib.ListN.{length, get_or-eq_default}
use Rattle.text.proofs.Cases.{by_order}
use Rattle.std.proofs.lemmas.Bool.{and_parts}
use Rattle.text.proofs.Laws.{skip_on}
use Rattle.text.proofs.Places.{byte_lt}
use Rattle.text.proofs.Reach.{skip_out}
use Rattle.text.specs.Class.{is_space}
use Rattle.text.specs.Scan.{skip, byte_at}
use Rattle.line_url.proofs.Laws.{end_on, end_here, end_last, middle, space_no_mark}
use Rattle.line_url.specs.Url.{is_break, is_mark, closes_at, marked_at, stops_at, url_end, goes_on}

-- the loop of `parse_url`, its tests in its order: the end and the next place, with n bytes left
unfoldable pub plain : List ℕ → ℕ → ℕ → ℕ × ℕ
plain s zero at = (at, at)
plain s (suc n) at =
    let later = plain s n (at + 1) in
    cond (is_break (byte_at s at)) (at, at + 1)
    (cond (is_space (byte_at s at) && closes_at s (at + 1)) (at, at + 1)
    (cond (is_mark (byte_at s at) && is_space (byte_at s (at + 1))) (at + 1, at + 1)
    later))

break_space : (b : ℕ) → is_break b ≡ true → is_space b ≡ true
break_space b h = go (eqb b 13) (eqb b 10) refl refl h
  where
    go : (t u : Bool) → eqb b 13 ≡ t → eqb b 10 ≡ u → (t || u) ≡ true → is_space b ≡ true
    go true u p q r = rw (eqb-true b 13 p)
    go false true p q r = rw (eqb-true b 10 q)
    go false false p q r = absurd (true≢false (sym r))

mark_no_space : (b : ℕ) → is_mark b ≡ true → is_space b ≡ false
mark_no_space b h = go (is_space b) refl
  where
    go : (t : Bool) → is_space b ≡ t → t ≡ false
    go true e = absurd (true≢false (sym h ∙ space_no_mark b e))
    go false e = refl

last_of : (a b : Bool) → (a || b || true) ≡ true
last_of true b = refl
last_of false true = refl
last_of false false = refl

-- what both say at a place
abbrev Same : List ℕ → ℕ → ℕ × ℕ → Type 0
Same s at r = r ≡ (url_end s at, goes_on s (url_end s at))

-- no `;` or `#` before whitespace was passed
abbrev Free : List ℕ → ℕ → Type 0
Free s at = is_space (byte_at s at) ≡ true → marked_at s at ≡ false

module _ (s : List ℕ) (at : ℕ) where
  same_last : length s ≤ at → Same s at (at, at)
  unfolding goes_on
  same_last h = rw (end_last s at h, le-ltb at (length s)) (go (marked_at s at))
    where
      go : (t : Bool) → ◌≡◌ {A = ℕ × ℕ} (at, at) (at, cond t at at)
      go true = refl
      go false = refl

  same_stop : at < length s → Free s at → is_space (byte_at s at) ≡ true → stops_at s at ≡ true → Same s at (at, at + 1)
  unfolding goes_on
  same_stop h free space stop = rw (end_here s at h stop, free space, lt-ltb at (length s))

  same_break : at < length s → Free s at → is_break (byte_at s at) ≡ true → Same s at (at, at + 1)
  unfolding stops_at
  same_break h free t =
      let space = break_space (byte_at s at) t in
      same_stop h free space (rw (space, t) (middle (marked_at s at) (closes_at s at)))

  same_close : at < length s → Free s at → (is_space (byte_at s at) && closes_at s (at + 1)) ≡ true → Same s at (at, at + 1)
  unfolding stops_at closes_at
  same_close h free t =
      let (space, close) = and_parts (is_space (byte_at s at)) (closes_at s (at + 1)) t in
      let closed : closes_at s at ≡ true = rw (skip_on is_space s at 0 h space) at close in
      same_stop h free space (rw (space, closed) (last_of (marked_at s at) (is_break (byte_at s at))))

  before : at + 1 - 1 ≡ at
  before = omega arith

  same_mark : at < length s → (is_mark (byte_at s at) && is_space (byte_at s (at + 1))) ≡ true → Same s at (at + 1, at + 1)
  unfolding stops_at goes_on
  same_mark h t =
      let (mark, space) = and_parts (is_mark (byte_at s at)) (is_space (byte_at s (at + 1))) t in
      let on : url_end s (at + 1) ≡ url_end s at = rw add-one (end_on s at h (rw (mark_no_space (byte_at s at) mark))) in
      let l : at + 1 < length s = byte_lt s (at + 1) is_space refl space in
      let marked : marked_at s (at + 1) ≡ true = rw before mark in
      let end : url_end s (at + 1) ≡ at + 1 = end_here s (at + 1) l (rw (space, marked)) in
      rw (← on, end, marked)

  same_on : at < length s → Free s at → is_break (byte_at s at) ≡ false → (is_space (byte_at s at) && closes_at s (at + 1)) ≡ false → (r : ℕ × ℕ) → Same s (at + 1) r → Same s at r
  unfolding stops_at closes_at
  same_on h free plainly clear r again = rw (← on) again
    where
      go : (t : Bool) → is_space (byte_at s at) ≡ t → stops_at s at ≡ false
      go true space =
          let closed : closes_at s (at + 1) ≡ false = rw space at clear in
          let shut : closes_at s at ≡ false = rw (skip_on is_space s at 0 h space) at closed in
          rw (space, free space, plainly, shut)
      go false space = rw space

      on : url_end s (at + 1) ≡ url_end s at
      on = rw add-one (end_on s at h (go (is_space (byte_at s at)) refl))

  free_on : (is_mark (byte_at s at) && is_space (byte_at s (at + 1))) ≡ false → Free s (at + 1)
  free_on t space = rw before (go (is_mark (byte_at s at)) refl)
    where
      go : (m : Bool) → is_mark (byte_at s at) ≡ m → m ≡ false
      go true e = rw (e, space) at t
      go false e = refl

pub plain_same : (s : List ℕ) (n at : ℕ) → n ≡ length s - at → Free s at → Same s at (plain s n at)
unfolding plain
plain_same s zero at e free = same_last s at (omega arith)
plain_same s (suc n) at e free =
    go (is_break (byte_at s at)) (is_space (byte_at s at) && closes_at s (at + 1)) (is_mark (byte_at s at) && is_space (byte_at s (at + 1))) refl refl refl (plain_same s n (at + 1) (omega arith))
  where
    h : at < length s
    h = omega arith

    go : (t u v : Bool) → is_break (byte_at s at) ≡ t → (is_space (byte_at s at) && closes_at s (at + 1)) ≡ u → (is_mark (byte_at s at) && is_space (byte_at s (at + 1))) ≡ v → (Free s (at + 1) → Same s (at + 1) (plain s n (at + 1)))
        → Same s at (cond {A = ℕ × ℕ} t (at, at + 1) (cond {A = ℕ × ℕ} u (at, at + 1) (cond {A = ℕ × ℕ} v (at + 1, at + 1) (plain s n (at + 1)))))
    go true u v p q r again = same_break s at h free p
    go false true v p q r again = same_close s at h free q
    go false false true p q r again = same_mark s at h r
    go false false false p q r again = same_on s at h free p q (plain s n (at + 1)) (again (free_on s at r))

-- so at the URL's start, where no whitespace stands
pub plain_url : (s : List ℕ) (at : ℕ) → Same s (skip is_space s at) (plain s (length s - skip is_space s at) (skip is_space s at))
plain_url s at = plain_same s (length s - skip is_space s at) (skip is_space s at) refl free
  where
    free : Free s (skip is_space s at)
    free space =
        by_order (skip is_space s at) (length s)
        (λ h. absurd (true≢false (sym space ∙ skip_out is_space s at 0 h)))
        (λ h. absurd (true≢false (sym space ∙ ap is_space (get_or-eq_default s 0 h))))
