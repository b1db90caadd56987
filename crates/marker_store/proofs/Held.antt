-- For all that reads or fills the arrays: padded arrays of numbers, how long they are, what one element more makes of them, and what is loaded. Assumes nothing.
use Rattle.std.proofs.lemmas.List.{drop-replicate}
use mathlib.Core.Path.{◌≡◌, refl, sym, ap₂, ◌∙◌}
use mathlib.Core.List.{List, [], ◌∷◌, ◌++◌, append_assoc, append-nil}
use Prim.Native.Nat.{ℕ, zero, suc, ◌+◌, ◌-◌, ◌*◌, ◌<◌, ◌≤◌}
use native.Mathlib.Nat.{add_comm, mul-zero, mul-suc}
use native.Mathlib.Omega.{arith}
use lib.ListN.{length, get_or, set, drop, replicate, length-append, length-replicate}
use lib.Seq.{set-append_seam, sets, sets-eq, take_at, drop-append-add}
use Rattle.arrays.specs.Front.{pad}
use Rattle.marker_kind.specs.declared.kind.Comparison.{Comparison}
use Rattle.marker_kind.proofs.Own.{sort_own, key_own, operator_own}
use Rattle.marker_store.specs.Numbers.{comparison_numbers, warning_numbers, all_numbers, put_comparison, put_warning, comparison_in, warning_in}
use Rattle.marker_store.specs.Room.{comparison_width, warning_width, comparisons_room, warnings_room}
use Rattle.cursor.specs.Limits.{max_comparisons}
use Rattle.marker_store.specs.declared.marks.Warning.{Warning}

pub pad_length : (n : ℕ) (xs : List ℕ) → length xs ≤ n → length (pad n 0 xs) ≡ n
pad_length n xs h = omega (arith, length-append xs (replicate (n - length xs) 0), length-replicate {A = ℕ} (n - length xs) 0)

-- one more element goes where the filler begins
pub pad-set {ℓ} : {A : Type ℓ} (n : ℕ) (d : A) (xs : List A) (x : A) → length xs < n → set (pad n d xs) (length xs) x ≡ pad n d (xs ++ (x ∷ []))
pad-set n d xs x h =
    let m : n - length xs ≡ suc (n - length (xs ++ (x ∷ []))) = omega (arith, length-append xs (x ∷ [])) in
    rw m (set-append_seam xs d (replicate (n - length (xs ++ (x ∷ []))) d) x ∙ sym (append_assoc xs (x ∷ []) _))

pad_sets : (n : ℕ) (xs vs : List ℕ) (i : ℕ) → length xs ≡ i → i + length vs ≤ n → sets (pad n 0 xs) i vs ≡ pad n 0 (xs ++ vs)
pad_sets n xs vs i e h =
    let room : i + length vs ≤ length (pad n 0 xs) = omega (arith, length-append xs (replicate (n - length xs) 0), length-replicate {A = ℕ} (n - length xs) 0) in
    let less : n - length xs - length vs ≡ n - length (xs ++ vs) = omega (arith, length-append xs vs) in
    let rest : drop (i + length vs) (pad n 0 xs) ≡ replicate (n - length (xs ++ vs)) 0 =
    (rw (← e) (drop-append-add xs (replicate (n - length xs) 0) (length vs)))
    ∙ drop-replicate (length vs) (n - length xs) 0
    ∙ rw less in
    sets-eq vs (pad n 0 xs) i room ∙ rw (rest, take_at xs (replicate (n - length xs) 0) i e)

-- every element has as many numbers
numbers_length : {A : Type 0} (f : A → List ℕ) (n : ℕ) → ((x : A) → length (f x) ≡ n) → (xs : List A) → length (all_numbers f xs) ≡ n * length xs
unfolding all_numbers
numbers_length f n each [] = sym (mul-zero n)
numbers_length f n each (x ∷ xs) =
    rw (mul-suc n (length xs)) (length-append (f x) (all_numbers f xs) ∙ ap₂ ◌+◌ (each x) (numbers_length f n each xs) ∙ add_comm n (n * length xs))

pub comparisons_length : (cs : List Comparison) → length (all_numbers comparison_numbers cs) ≡ comparison_width * length cs
comparisons_length cs = numbers_length comparison_numbers comparison_width (λ x. refl) cs

pub warnings_length : (ws : List Warning) → length (all_numbers warning_numbers ws) ≡ warning_width * length ws
warnings_length ws = numbers_length warning_numbers warning_width (λ x. refl) ws

numbers_more : {A : Type 0} (f : A → List ℕ) (xs : List A) (x : A) → all_numbers f (xs ++ (x ∷ [])) ≡ all_numbers f xs ++ f x
unfolding all_numbers
numbers_more f [] x = append-nil (f x)
numbers_more f (y ∷ xs) x = rw (numbers_more f xs x) (sym (append_assoc (f y) (all_numbers f xs) (f x)))

-- one more comparison, and one more warning, go behind those that are there
pub put_comparison_lem : (cs : List Comparison) (c : Comparison) → length cs < max_comparisons →
    put_comparison (pad comparisons_room 0 (all_numbers comparison_numbers cs)) (length cs) c ≡ pad comparisons_room 0 (all_numbers comparison_numbers (cs ++ (c ∷ [])))
unfolding put_comparison
put_comparison_lem cs c h =
    pad_sets comparisons_room (all_numbers comparison_numbers cs) (comparison_numbers c) (comparison_width * length cs) (comparisons_length cs) (omega arith)
    ∙ rw (numbers_more comparison_numbers cs c)

pub put_warning_lem : (ws : List Warning) (w : Warning) → length ws < max_comparisons →
    put_warning (pad warnings_room 0 (all_numbers warning_numbers ws)) (length ws) w ≡ pad warnings_room 0 (all_numbers warning_numbers (ws ++ (w ∷ [])))
unfolding put_warning
put_warning_lem ws w h =
    pad_sets warnings_room (all_numbers warning_numbers ws) (warning_numbers w) (warning_width * length ws) (warnings_length ws) (omega arith)
    ∙ rw (numbers_more warning_numbers ws w)

-- a step over the numbers of one
module _ (m k : ℕ) where
  step_comparison : comparison_width * suc m + k ≡ suc (suc (suc (suc (suc (comparison_width * m + k)))))
  step_comparison = omega arith

  step_warning : warning_width * suc m + k ≡ suc (suc (suc (warning_width * m + k)))
  step_warning = omega arith

-- the n-th of the comparisons, and of the warnings, stands where it is looked for, whatever follows
pub comparison_at : (cs : List Comparison) (rest : List ℕ) (n : ℕ) (d : Comparison) → n < length cs → comparison_in (all_numbers comparison_numbers cs ++ rest) n ≡ get_or cs n d
unfolding comparison_in all_numbers
comparison_at [] rest n d h = absurd (omega arith)
comparison_at (c ∷ cs) rest zero d h = rw (sort_own c.sort, key_own c.key, operator_own c.operator)
comparison_at (c ∷ cs) rest (suc m) d h =
    rw (step_comparison m 0, step_comparison m 1, step_comparison m 2, step_comparison m 3, step_comparison m 4) (comparison_at cs rest m d (omega arith))

pub warning_at : (ws : List Warning) (rest : List ℕ) (n : ℕ) (d : Warning) → n < length ws → warning_in (all_numbers warning_numbers ws ++ rest) n ≡ get_or ws n d
unfolding warning_in all_numbers
warning_at [] rest n d h = absurd (omega arith)
warning_at (w ∷ ws) rest zero d h = refl
warning_at (w ∷ ws) rest (suc m) d h = rw (step_warning m 0, step_warning m 1, step_warning m 2) (warning_at ws rest m d (omega arith))
