-- The normal form of a good name is good. Assumes nothing.
use mathlib.Core.Path.{◌≡◌, refl, sym, ap, ◌∙◌}
use mathlib.Core.Bool.{Bool, true, false, cond, and-false}
use mathlib.Core.List.{List, [], ◌∷◌}
use Prim.Native.Nat.{ℕ, suc, ◌+◌, ◌-◌, ◌≤◌, zero-le}
use native.Mathlib.Omega.{arith}
use borrow.Author.Tests.{le-leb, le-ltb, ltb-true, ltb-false}
use lib.Dec.{ltb}
use lib.ListN.{length, get_or}
use Rattle.arrays.specs.Front.{onto}
use Rattle.refusal.specs.Answer.{good}
use Rattle.text.proofs.Cases.{within_true}
use Rattle.text.proofs.Reach.{run_le}
use Rattle.text.specs.Class.{is_capital, is_separator, is_name_byte}
use Rattle.text.specs.Scan.{run}
use Rattle.name.proofs.Idempotent.{form_separator, normal_head, idempotent}
use Rattle.name.proofs.Laws.{kept, gone}
use Rattle.name.specs.Normal.{form, merges, normal, bad_at}
use Rattle.name.specs.Normalise.{normalised, output}

-- the last byte
abbrev last : List ℕ → ℕ
last s = get_or s (length s - 1) 0

last_cons : (b c : ℕ) (t : List ℕ) → last (b ∷ c ∷ t) ≡ last (c ∷ t)
last_cons b c t =
    let e : suc (suc (length t)) - 1 ≡ suc (suc (length t) - 1) = omega arith in
    rw e

-- a name's bytes stay a name's bytes
form_name : (b : ℕ) → is_name_byte b ≡ true → is_name_byte (form b) ≡ true
form_name b h = go (is_separator b) (is_capital b) refl refl
  where
    go : (t u : Bool) → is_separator b ≡ t → is_capital b ≡ u → is_name_byte (cond t 45 (cond u (b + 32) b)) ≡ true
    go true u s c = refl
    go false true s c =
        let w = within_true 65 90 b c in
        rw (le-leb 97 (b + 32) (omega arith), le-leb (b + 32) 122 (omega arith))
    go false false s c = h

names_stay : (s : List ℕ) → run is_name_byte s ≡ length s → run is_name_byte (normal s) ≡ length (normal s)
unfolding run normal
names_stay [] h = refl
names_stay (b ∷ s) h = go (is_name_byte b) refl (merges (b ∷ s)) h (names_stay s)
  where
    go : (t : Bool) → is_name_byte b ≡ t → (u : Bool) → cond t (suc (run is_name_byte s)) 0 ≡ suc (length s) → (run is_name_byte s ≡ length s → run is_name_byte (normal s) ≡ length (normal s)) → run is_name_byte (cond u (normal s) (form b ∷ normal s)) ≡ length (cond u (normal s) (form b ∷ normal s))
    go true n true e again = again (omega arith)
    go true n false e again = rw (form_name b n) (ap suc (again (omega arith)))
    go false n u e again = absurd (omega arith)

-- the last byte stays a separator, or none
normal_some : (c : ℕ) (t : List ℕ) → (d : ℕ) × (l : List ℕ) × (normal (c ∷ t) ≡ d ∷ l)
normal_some c [] = (form c, normal [], kept (c ∷ []) c [] refl (and-false (is_separator c)))
normal_some c (x ∷ t) = go (merges (c ∷ x ∷ t)) refl (normal_some x t)
  where
    go : (u : Bool) → merges (c ∷ x ∷ t) ≡ u → (d : ℕ) × (l : List ℕ) × (normal (x ∷ t) ≡ d ∷ l) → (d : ℕ) × (l : List ℕ) × (normal (c ∷ x ∷ t) ≡ d ∷ l)
    go true h r = (r.0, r.1, gone (c ∷ x ∷ t) c (x ∷ t) refl h ∙ r.2)
    go false h r = (form c, normal (x ∷ t), kept (c ∷ x ∷ t) c (x ∷ t) refl h)

normal_last : (b : ℕ) (s : List ℕ) → is_separator (last (normal (b ∷ s))) ≡ is_separator (last (b ∷ s))
unfolding normal
normal_last b [] = rw (and-false (is_separator b)) (form_separator b)
normal_last b (c ∷ t) = go (merges (b ∷ c ∷ t)) refl (normal_last c t) (normal_some c t)
  where
    go : (u : Bool) → merges (b ∷ c ∷ t) ≡ u → is_separator (last (normal (c ∷ t))) ≡ is_separator (last (c ∷ t)) → (d : ℕ) × (l : List ℕ) × (normal (c ∷ t) ≡ d ∷ l) → is_separator (last (normal (b ∷ c ∷ t))) ≡ is_separator (last (b ∷ c ∷ t))
    go true h again some =
        ap (λ (m : List ℕ). is_separator (last m)) (gone (b ∷ c ∷ t) b (c ∷ t) refl h) ∙ again ∙ ap is_separator (sym (last_cons b c t))
    go false h again some =
        ap (λ (m : List ℕ). is_separator (last m)) (kept (b ∷ c ∷ t) b (c ∷ t) refl h ∙ ap (λ (m : List ℕ). form b ∷ m) some.2)
        ∙ ap is_separator (last_cons (form b) some.0 some.1)
        ∙ ap (λ (m : List ℕ). is_separator (last m)) (sym some.2)
        ∙ again
        ∙ ap is_separator (sym (last_cons b c t))

pub stays_good : (s : List ℕ) → bad_at s ≡ length s → bad_at (normal s) ≡ length (normal s)
unfolding bad_at
stays_good [] h = unfold normal run in refl
stays_good (b ∷ s) h = go (is_separator b) refl (ltb (run is_name_byte (b ∷ s)) (length (b ∷ s))) refl (is_separator (last (b ∷ s))) refl h
  where
    go : (t : Bool) → is_separator b ≡ t → (u : Bool) → ltb (run is_name_byte (b ∷ s)) (length (b ∷ s)) ≡ u → (v : Bool) → is_separator (last (b ∷ s)) ≡ v → cond t 0 (cond u (run is_name_byte (b ∷ s)) (cond v (length (b ∷ s) - 1) (length (b ∷ s)))) ≡ length (b ∷ s) → bad_at (normal (b ∷ s)) ≡ length (normal (b ∷ s))
    go true p u q v r e = absurd (omega arith)
    go false p true q v r e = absurd (omega (arith, ltb-true))
    go false p false q true r e = absurd (omega arith)
    go false p false q false r e =
        let full : run is_name_byte (b ∷ s) ≡ length (b ∷ s) = omega (arith, run_le is_name_byte (b ∷ s), ltb-false (run is_name_byte (b ∷ s)) (length (b ∷ s)) q) in
        let stay = names_stay (b ∷ s) full in
        rw (normal_head (b ∷ s) ∙ p, le-ltb (run is_name_byte (normal (b ∷ s))) (length (normal (b ∷ s))) (omega arith), normal_last b s ∙ r)

-- so whoever normalises the normal form of a good name gets it back, in every output that has room for it
module _ (s : List ℕ) (good-name : bad_at s ≡ length s) where
  pub again : (room : ℕ) → length (normal s) ≤ room → normalised (normal s) room ≡ good (length (normal s))
  again room fits = rw (stays_good s good-name, le-ltb (length (normal s)) (length (normal s)) (omega arith), idempotent s, le-ltb room (length (normal s)))

  pub again_written : (out : List ℕ) → length (normal s) ≤ length out → output (normal s) out ≡ onto (normal s) out
  again_written out fits = rw (again (length out) fits, idempotent s)

-- no normal form is longer than its name
pub no_longer : (s : List ℕ) → length (normal s) ≤ length s
unfolding normal
no_longer [] = zero-le
no_longer (b ∷ s) = go (merges (b ∷ s)) (no_longer s)
  where
    go : (t : Bool) → length (normal s) ≤ length s → length (cond t (normal s) (form b ∷ normal s)) ≤ suc (length s)
    go true h = omega arith
    go false h = omega arith
