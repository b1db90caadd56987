-- The laws of a list of spans in an array: one store at the count, and the list taken out again. An array's length is never asked for, but
-- where it has to hold the list. Assumes nothing.
use mathlib.Core.Path.{◌≡◌, refl, sym, ap, ◌∙◌}
use mathlib.Core.List.{List, [], ◌∷◌, ◌++◌}
use Prim.Native.Nat.{ℕ, zero, suc, ◌+◌, ◌-◌, ◌*◌, ◌≤◌, ◌<◌}
use native.Mathlib.Numerals.{add-one}
use native.Mathlib.Omega.{arith}
use borrow.Author.Rules.{rules}
use lib.ListN.{length, take, drop, set, replicate, length-append}
use lib.Seq.{set_at, append_snoc}
use Rattle.arrays.specs.Front.{onto}
use Rattle.refusal.specs.Refusal.{span}
use Rattle.refusal.specs.declared.place.Span.{Span}
use Rattle.spans.specs.Flat.{flat, spans_onto, stored, span_at, loaded, list_numbers, filler, padded}
use Rattle.cursor.specs.Limits.{max_list}

even : (m : ℕ) → 2 * suc m ≡ suc (suc (2 * m))
even m = omega arith

odd : (m : ℕ) → 2 * suc m + 1 ≡ suc (suc (2 * m + 1))
odd m = omega arith

-- a store at the count of a list that stands at an array's front: the list has one span more
pub store_one : (l : List Span) (x : Span) (old : List ℕ) → stored (spans_onto l old) (length l) x ≡ spans_onto (l ++ (x ∷ [])) old
unfolding flat onto stored
store_one [] x [] = refl
store_one [] x (a ∷ []) = refl
store_one [] x (a ∷ b ∷ old) = refl
store_one (y ∷ l) x [] = refl
store_one (y ∷ l) x (a ∷ []) = rw (odd (length l), even (length l))
store_one (y ∷ l) x (a ∷ b ∷ old) =
    rw (odd (length l), even (length l)) (ap (λ (r : List ℕ). y.start.0 ∷ y.len ∷ r) (store_one l x old))

-- what was written is taken out again
pub load_onto : (l : List Span) (old : List ℕ) → 2 * length l ≤ length old → loaded (length l) (spans_onto l old) ≡ l
unfolding flat onto loaded
load_onto [] old h = refl
load_onto (x ∷ l) [] h = absurd (omega arith)
load_onto (x ∷ l) (a ∷ []) h = absurd (omega arith)
load_onto (x ∷ l) (a ∷ b ∷ old) h = ap (λ (r : List Span). x ∷ r) (load_onto l old (omega arith))

load_length : (i : ℕ) (list : List ℕ) → length (loaded i list) ≡ i
unfolding loaded
load_length zero list = refl
load_length (suc i) list = ap suc (load_length i (drop 2 list))

load_more : (i : ℕ) (list : List ℕ) → loaded (suc i) list ≡ loaded i list ++ (span_at list i ∷ [])
unfolding loaded
load_more zero list = refl
load_more (suc i) [] = ap (λ (r : List Span). span 0 0 ∷ r) (load_more i [])
load_more (suc i) (a ∷ []) = ap (λ (r : List Span). span a 0 ∷ r) (load_more i [] ∙ rw (odd i, even i))
load_more (suc i) (a ∷ b ∷ list) = ap (λ (r : List Span). span a b ∷ r) (load_more i list ∙ rw (odd i, even i))

-- the numbers of the first spans that an array holds are its first numbers
load_flat : (n : ℕ) (list : List ℕ) → 2 * n ≤ length list → take (2 * n) list ≡ flat (loaded n list)
unfolding flat loaded
load_flat zero list h = refl
load_flat (suc n) [] h = absurd (omega arith)
load_flat (suc n) (a ∷ []) h = absurd (omega arith)
load_flat (suc n) (a ∷ b ∷ list) h = rw (even n) (ap (λ (r : List ℕ). a ∷ b ∷ r) (load_flat n list (omega arith)))

pub copied : (list old out : List ℕ) (n : ℕ) → n ≤ max_list → length list ≡ list_numbers → out ≡ onto (take (2 * n) list) old → out ≡ spans_onto (loaded n list) old
copied list old out n few size made = rw (← load_flat n list (omega arith)) made

-- the loop that gathers
pub gather_start : (list : List ℕ) → replicate max_list filler ≡ padded (loaded 0 list)
unfolding loaded
gather_start list = refl

pad_one : (l : List Span) (x : Span) (i : ℕ) → length l ≡ i → i < max_list → set (padded l) i x ≡ padded (l ++ (x ∷ []))
pad_one l x i e h =
    let k : max_list - length l ≡ suc (max_list - suc (length l)) = omega arith in
    let m : max_list - length (l ++ (x ∷ [])) ≡ max_list - suc (length l) = omega (arith, length-append l (x ∷ [])) in
    rw (k, m) (set_at l filler (replicate (max_list - suc (length l)) filler) x i e ∙ sym (append_snoc l x (replicate (max_list - suc (length l)) filler)))

pub gather_turn : (list : List ℕ) (spans : List Span) (x : Span) (i n : ℕ) → spans ≡ padded (loaded i list) → i < n → n ≤ max_list → x ≡ span_at list i → set spans i x ≡ padded (loaded (i + 1) list)
gather_turn list spans x i n inv h few told =
    rw (add-one, inv) (pad_one (loaded i list) x i (load_length i list) (omega arith) ∙ rw (told) (sym (ap padded (load_more i list))))

pub gather_end : (list : List ℕ) (spans : List Span) (i n : ℕ) → spans ≡ padded (loaded i list) → i ≤ n → n ≤ i → spans ≡ padded (loaded n list)
gather_end list spans i n inv l h = let e : n ≡ i = omega arith in rw e inv

pub ruleset gathered = (gather_start, gather_turn, gather_end, rules)
