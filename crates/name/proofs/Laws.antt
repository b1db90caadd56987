-- The laws of the normal form, of the first bad byte and of the three answers, which answer the functions of this crate. Assumes nothing.
use mathlib.Core.Path.{◌≡◌, refl, sym, ap, ◌∙◌}
use mathlib.Core.Bool.{Bool, true, false, false≢true}
use mathlib.Core.List.{List, [], ◌∷◌}
use Prim.Native.Nat.{ℕ, ◌+◌, ◌-◌, ◌≤◌, ◌<◌}
use native.Mathlib.Numerals.{add-one}
use native.Mathlib.Omega.{arith}
use borrow.Author.Tests.{lt-ltb, le-ltb}
use lib.ListN.{length, drop, get_or, drop_of_length-le}
use lib.Seq.{drop-cons}
use Rattle.arrays.proofs.Front.{Front, front, count_one, front_room}
use Rattle.arrays.specs.Front.{onto}
use Rattle.refusal.proofs.Numbers.{given_is}
use Rattle.refusal.specs.Answer.{good}
use Rattle.refusal.specs.Refusal.{refusal, given}
use Rattle.refusal.specs.declared.fault.Fault.TheVariants.{NameBad, OutputShort}
use Rattle.refusal.specs.declared.fault.Refusal.{Refusal}
use Rattle.text.proofs.Cases.{cases, by_order}
use Rattle.text.proofs.Laws.{run_start}
use Rattle.text.proofs.Reach.{run_le}
use Rattle.text.specs.Class.{is_separator, is_name_byte}
use Rattle.text.specs.Scan.{run, byte_at}
use Rattle.name.specs.Normal.{form, merges, normal, bad_at}
use Rattle.name.specs.Normalise.{normalised, output}

-- the normal form of a text by its first byte
module _ (l : List ℕ) (b : ℕ) (t : List ℕ) (e : l ≡ b ∷ t) where
  pub gone : merges l ≡ true → normal l ≡ normal t
  unfolding normal
  gone h = rw (e, rw e at h)

  pub kept : merges l ≡ false → normal l ≡ form b ∷ normal t
  unfolding normal
  kept h = rw (e, rw e at h)

-- a turn: the byte at i merges, or is kept; and the end
module _ (s : List ℕ) (i : ℕ) (r : Bool) (told : r ≡ merges (drop i s)) (h : i < length s) where
  pub normal_gone : r ≡ true → normal (drop i s) ≡ normal (drop (i + 1) s)
  normal_gone t = rw add-one (gone (drop i s) _ _ (drop-cons s i 0 h) (sym told ∙ t))

  pub normal_kept : r ≡ false → normal (drop i s) ≡ form (get_or s i 0) ∷ normal (drop (i + 1) s)
  normal_kept t = rw add-one (kept (drop i s) _ _ (drop-cons s i 0 h) (sym told ∙ t))

  pub kept_count : (n k : ℕ) → n + length (normal (drop i s)) ≡ k → r ≡ false → n + 1 + length (normal (drop (i + 1) s)) ≡ k
  kept_count n k inv t = count_one n k _ inv _ _ (normal_kept t)

  pub kept_room : (all old out : List ℕ) (n : ℕ) → Front all (normal (drop i s)) old out n → r ≡ false → n < length out
  kept_room all old out n inv t = front_room all _ old out n inv _ _ (normal_kept t)

pub normal_end : (s : List ℕ) (i : ℕ) → length s ≤ i → normal (drop i s) ≡ []
unfolding normal
normal_end s i h = rw (drop_of_length-le s h)

-- the first bad byte, from the tests that the code made: `r` of the first byte, `q` of the last before `e`
module _ (s : List ℕ) (r : Bool) (first : r ≡ is_separator (byte_at s 0)) where
  pub bad_front : r ≡ true → 0 ≡ bad_at s
  unfolding bad_at
  bad_front h = rw (← first, h)

  module _ (e : ℕ) (end : e ≡ run is_name_byte s) (h : r ≡ false) where
    pub bad_inside : e < length s → e ≡ bad_at s
    unfolding bad_at
    bad_inside l = rw (← first, h, ← end, lt-ltb e (length s))

    module _ (l : length s ≤ e) (q : Bool) (last : q ≡ is_separator (byte_at s (e - 1))) where
      all : e ≡ length s
      all = omega (arith, run_le is_name_byte s)

      pub bad_last : q ≡ true → e - 1 ≡ bad_at s
      unfolding bad_at
      bad_last t = rw (← first, h, ← end, ← all, le-ltb e e (omega arith), ← last, t)

      pub bad_none : q ≡ false → e ≡ bad_at s
      unfolding bad_at
      bad_none t = rw (← first, h, ← end, ← all, le-ltb e e (omega arith), ← last, t)

      -- an empty name has no last byte to be bad
      pub last_some : q ≡ true → 1 ≤ e
      last_some t =
          by_order 0 e (λ some. some)
          (λ none.
          let z : e - 1 ≡ 0 = omega arith in
          absurd (false≢true (sym h ∙ first ∙ ap (λ (k : ℕ). is_separator (byte_at s k)) (sym z) ∙ sym last ∙ t)))

-- the three answers, and what each leaves in the output, from what the code found
module _ (s out : List ℕ) (bad : ℕ) (found : bad ≡ bad_at s) where
  pub answer_bad : (why : Refusal) (room : ℕ) → bad < length s → why ≡ refusal NameBad bad 1 → given why ≡ normalised s room
  answer_bad why room h made = rw (← found, lt-ltb bad (length s)) (given_is why NameBad bad bad 1 28 made refl refl)

  pub kept_bad : bad < length s → out ≡ output s out
  kept_bad h = rw (← found, lt-ltb bad (length s))

  module _ (n : ℕ) (h : length s ≤ bad) (size : n ≡ length (normal s)) where
    pub answer_short : (why : Refusal) (room : ℕ) → room < n → why ≡ refusal OutputShort 0 1 → given why ≡ normalised s room
    answer_short why room l made = rw (← found, le-ltb bad (length s), ← size, lt-ltb room n) (given_is why OutputShort 0 0 1 29 made refl refl)

    pub kept_short : length out < n → out ≡ output s out
    kept_short l = rw (← found, le-ltb bad (length s), ← size, lt-ltb (length out) n)

    pub answer_written : (room : ℕ) → n ≤ room → good n ≡ normalised s room
    answer_written room l = rw (← found, le-ltb bad (length s), ← size, le-ltb room n)

    pub written_out : (now : List ℕ) → n ≤ length out → now ≡ onto (normal s) out → now ≡ output s out
    written_out now l e = rw (← found, le-ltb bad (length s), ← size, le-ltb (length out) n) e

pub ruleset normals = (bad_front, bad_inside, bad_last, bad_none, last_some, normal_gone, normal_kept, normal_end, kept_count, kept_room, answer_bad, kept_bad, answer_short, kept_short, answer_written, written_out, front, run_start, cases)
