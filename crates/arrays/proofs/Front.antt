-- The laws of a list over the front of an array, and of a loop that counts it or writes it there: `rest` is what is still to come. Assumes nothing.
use mathlib.Core.Path.{◌≡◌, refl, sym, ap, ◌∙◌}
use mathlib.Core.List.{List, [], ◌∷◌, ◌++◌, append-nil}
use Prim.Native.Nat.{ℕ, suc, ◌+◌, ◌≤◌, ◌<◌, zero-le}
use native.Mathlib.Numerals.{add-one}
use native.Mathlib.Omega.{arith}
use lib.ListN.{length, take, drop, set, length-set, length-append, length-take, take-append-drop}
use lib.Seq.{take-suc-set, drop-set-lt, append_snoc, drop-drop, length-take-le}
use Rattle.arrays.specs.Front.{onto}

-- a list that fits stands in front of the rest
pub onto_front : {A : Type 0} (xs old : List A) → length xs ≤ length old → onto xs old ≡ xs ++ drop (length xs) old
unfolding onto
onto_front [] old h = refl
onto_front (x ∷ xs) [] h = absurd (omega arith)
onto_front {A} (x ∷ xs) (y ∷ old) h = ap (λ (r : List A). x ∷ r) (onto_front xs old (omega arith))

-- a part of another in front of the rest
pub onto_part : {A : Type 0} (xs old : List A) (n : ℕ) → n ≤ length xs → n ≤ length old → take n xs ++ drop n old ≡ onto (take n xs) old
onto_part {A} xs old n room space =
    let l : length (take n xs) ≡ n = length-take-le n xs room in
    sym (onto_front (take n xs) old (rw l space) ∙ ap (λ (k : ℕ). take n xs ++ drop k old) l)

-- an array keeps its length
pub onto_length : {A : Type 0} (xs old : List A) → length (onto xs old) ≡ length old
unfolding onto
onto_length [] old = refl
onto_length (x ∷ xs) [] = refl
onto_length (x ∷ xs) (y ∷ old) = ap suc (onto_length xs old)

-- n elements are counted, of k
module _ (n k : ℕ) (rest : List ℕ) (inv : n + length rest ≡ k) where
  pub count_same : (next : List ℕ) → rest ≡ next → n + length next ≡ k
  count_same next e = rw (← e) inv

  pub count_one : (b : ℕ) (next : List ℕ) → rest ≡ b ∷ next → n + 1 + length next ≡ k
  count_one b next e = omega (arith, rw e at inv)

  pub count_done : rest ≡ [] → n ≡ k
  count_done e = omega (arith, rw e at inv)

-- `all` is written at the front of a buffer that held `old`: n elements stand
pub record Front (all rest old out : List ℕ) (n : ℕ) : Type 0 where
  pub text : take n out ++ rest ≡ all
  pub tail : drop n out ≡ drop n old
  pub size : length out ≡ length old
  pub room : length all ≤ length old
  pub within : n ≤ length out

pub front_start : (all old : List ℕ) → length all ≤ length old → Front all all old old 0
front_start all old h = record { text = refl; tail = refl; size = refl; room = h; within = zero-le }

module _ (all rest old out : List ℕ) (n : ℕ) (inv : Front all rest old out n) where
  pub front_same : (next : List ℕ) → rest ≡ next → Front all next old out n
  front_same next e = rw (← e) inv

  pub front_room : (b : ℕ) (next : List ℕ) → rest ≡ b ∷ next → n < length out
  front_room b next e =
      let l = ap length inv.text in
      omega (arith, simp (e, length-append, length-take) at l, inv.size, inv.room)

  pub front_put : (b v : ℕ) (next : List ℕ) → rest ≡ b ∷ next → v ≡ b → Front all next old (set out n v) (n + 1)
  front_put b v next e same = let h = front_room b next e in record {
    text = rw (add-one, take-suc-set out n v, append_snoc (take n out) v next, same) (rw e at inv.text);
    tail = rw (drop-set-lt (n + 1) out n v (omega arith)) (sym (drop-drop 1 n out) ∙ ap (drop 1) inv.tail ∙ drop-drop 1 n old);
    size = length-set out n v ∙ inv.size;
    room = inv.room;
    within = simp length-set (omega arith);
  }

  pub front_done : rest ≡ [] → out ≡ onto all old
  front_done e =
      let t : take n out ≡ all = sym (append-nil (take n out)) ∙ (rw e at inv.text) in
      let l : length all ≡ n = rw (← t) (length-take-le n out inv.within) in
      rw (onto_front all old inv.room, l, ← t, ← inv.tail) (sym (take-append-drop n out))

pub ruleset front = (count_same, count_done, front_start, front_same, front_put, front_done)
