-- Up to the end of a release the reading loses no text that the expression matches. Assumes nothing.
use mathlib.Core.Path.{◌≡◌, refl, sym, ap, ◌∙◌}
use mathlib.Core.Bool.{Bool, true, false, cond, not, ◌&&◌, and-false}
use mathlib.Core.List.{List, [], ◌∷◌, ◌++◌, map, append_assoc, nil≢cons, cons≢nil, head-eq_of_cons-eq, tail-eq_of_cons-eq}
use mathlib.Core.Logic.{◌⊎◌, inl, inr}
use Prim.Native.Nat.{ℕ, ◌+◌, ◌<◌}
use Prim.Native.Char.{code}
use native.Mathlib.Nat.{add-zero}
use native.Mathlib.Omega.{arith}
use borrow.Author.Tests.{lt-ltb, eqb-true, eq-eqb, not-true}
use lib.Dec.{ltb, eqb}
use lib.ListN.{length, drop, length-append}
use lib.Seq.{get_or-append-add}
use Rattle.std.proofs.lemmas.Bool.{and_parts}
use Rattle.text.specs.Class.{is_space, is_digit, small}
use Rattle.text.specs.Scan.{run, skip, byte_at}
use Rattle.version_language.proofs.Bytes.{Ascii, Apart, digit_ascii, space_ascii, inside, apart}
use Rattle.version_language.proofs.Parts.{from_first, from_epoch, from_start, from_v, begun, released, there_or_not, Cut, cut_none, cut_seam, follow}
use Rattle.version_language.proofs.Whole.{run_whole, number_whole, number_first, number_there, more_first, joined_whole}
use Rattle.version_language.specs.Appendix.{Regex, matches, all, word, many, ◌then◌, sign, number}
use Rattle.version_parts.specs.Joined.{more}
use Rattle.version_parts.specs.Release.{v_len, epoch_len, is_dot}
use Rattle.version.specs.Layout.{layout, has_release}
use Rattle.version_number.specs.Number.{number_len}

-- a dot is of no class that has no dot
dot_not : (p : ℕ → Bool) → p (code ".") ≡ false → (b : ℕ) → is_dot b ≡ true → p b ≡ false
dot_not p out b h = rw (eqb-true b (code ".") h) out

-- a text that is one letter
one_letter : (u : List ℕ) (c : ℕ) → map small u ≡ c ∷ [] → (b : ℕ) × (u ≡ b ∷ []) × (small b ≡ c)
one_letter [] c h = absurd (nil≢cons h)
one_letter (b ∷ []) c h = (b, refl, head-eq_of_cons-eq h)
one_letter (b ∷ d ∷ u) c h = absurd (cons≢nil (tail-eq_of_cons-eq h))

-- behind the first number, `!` makes it an epoch
epoch_len_lem : (u w : List ℕ) → number_len (u ++ w) ≡ length u → epoch_len (u ++ w) ≡ cond (ltb 0 (length u) && eqb (byte_at w 0) (code "!")) (length u + 1) 0
unfolding epoch_len
epoch_len_lem u w whole =
    let next : byte_at (u ++ w) (length u) ≡ byte_at w 0 = rw add-zero at (get_or-append-add u w 0 0) in
    rw (whole, next)

-- What may follow the first number: it makes it neither longer nor an epoch.
pub record EndsFirst (L : Regex) : Type 0 where
  pub no_digit : (w : List ℕ) → matches L w → is_digit (byte_at w 0) ≡ false
  pub no_mark : (w : List ℕ) → matches L w → eqb (byte_at w 0) (code "!") ≡ false

module _ {L : Regex} (rest : EndsFirst L) where
  first_whole : (u w : List ℕ) → matches number u → matches L w → number_len (u ++ w) ≡ length u
  first_whole u w num m = number_whole u num w (rest.no_digit w m)

  first_cut : (v : List ℕ) → matches (from_epoch L) v → Cut (number_len v) L v
  first_cut v (u, w, e, num, m) = rw e (cut_seam (number_len (u ++ w)) L u w (first_whole u w num m) m)

  first_there : (v : List ℕ) → matches (from_epoch L) v → 0 < number_len v
  first_there v (u, w, e, num, m) = rw (e, first_whole u w num m) (number_there u num)

  epoch_first : (v : List ℕ) → matches (from_epoch L) v → is_digit (byte_at v 0) ≡ true
  epoch_first v (u, w, e, num, m) = rw e (number_first u num w)

  epoch_cut : (v : List ℕ) → matches (from_start L) v → Cut (epoch_len v) (from_epoch L) v
  epoch_cut v m = go (there_or_not (number then sign "!") (from_epoch L) v m)
    where
      go : matches (from_epoch L) v ⊎ matches ((number then sign "!") then from_epoch L) v → Cut (epoch_len v) (from_epoch L) v
      go (inl (u, w, e, num, m)) =
          let none : epoch_len (u ++ w) ≡ 0 = rw (epoch_len_lem u w (first_whole u w num m), rest.no_mark w m, and-false) in
          rw e (cut_none (epoch_len (u ++ w)) (from_epoch L) (u ++ w) none (u, w, refl, num, m))
      go (inr (u, w, e, (n, x, f, num, (b, g, h)), k)) =
          let mark : b ≡ code "!" = eqb-true b (code "!") h in
          let whole : number_len (n ++ (b ∷ w)) ≡ length n = number_whole n num (b ∷ w) (rw mark) in
          let there : epoch_len (n ++ (b ∷ w)) ≡ length n + 1 = rw (epoch_len_lem n (b ∷ w) whole, h, lt-ltb 0 (length n) (number_there n num)) in
          let same : u ++ w ≡ n ++ (b ∷ w) = rw (f, g) (append_assoc n (b ∷ []) w) in
          let size : length u ≡ length n + 1 = rw (f, g) (length-append n (b ∷ [])) in
          rw e (cut_seam (epoch_len (u ++ w)) (from_epoch L) u w (ap epoch_len same ∙ there ∙ sym size) k)

  start_first : (v : List ℕ) → matches (from_start L) v → is_digit (byte_at v 0) ≡ true
  start_first v m = go (there_or_not (number then sign "!") (from_epoch L) v m)
    where
      go : matches (from_epoch L) v ⊎ matches ((number then sign "!") then from_epoch L) v → is_digit (byte_at v 0) ≡ true
      go (inl k) = epoch_first v k
      go (inr (u, w, e, (n, x, f, num, mark), k)) = rw (e, f, append_assoc) (number_first n num (x ++ w))

  v_cut : (v : List ℕ) → matches (from_v L) v → Cut (v_len v) (from_start L) v
  v_cut v m = go (there_or_not (word "v") (from_start L) v m)
    where
      go : matches (from_start L) v ⊎ matches (word "v" then from_start L) v → Cut (v_len v) (from_start L) v
      go (inl k) =
          let none : eqb (small (byte_at v 0)) (code "v") ≡ false = not-true (eqb (small (byte_at v 0)) (code "v")) (inside is_digit (λ b. not (eqb (small b) (code "v"))) digit_ascii refl (byte_at v 0) (start_first v k)) in
          cut_none (v_len v) (from_start L) v (rw none) k
      go (inr (u, w, e, this, k)) =
          let (b, f, h) = one_letter u (code "v") this in
          rw (e, f, eq-eqb (small b) (code "v") h) (cut_seam 1 (from_start L) (b ∷ []) w refl k)

  -- in front stands a `v` or a digit
  module _ (p : ℕ → Bool) (ascii : Ascii p) (no_digit : Apart p is_digit) (no-v : Apart p (λ b. eqb (small b) (code "v"))) where
    v_not : (v : List ℕ) → matches (from_v L) v → p (byte_at v 0) ≡ false
    v_not v m = go (there_or_not (word "v") (from_start L) v m)
      where
        go : matches (from_start L) v ⊎ matches (word "v" then from_start L) v → p (byte_at v 0) ≡ false
        go (inl k) = apart p is_digit ascii no_digit (byte_at v 0) (start_first v k)
        go (inr (u, w, e, this, k)) =
            let (b, f, h) = one_letter u (code "v") this in
            rw (e, f) (apart p (λ b. eqb (small b) (code "v")) ascii no-v b (eq-eqb (small b) (code "v") h))

    -- or white space before it
    pub begun_not : Apart p is_space → (s : List ℕ) → matches (begun L) s → p (byte_at s 0) ≡ false
    begun_not no-space s ([], w, e, space, m) = rw e (v_not w m)
    begun_not no-space s (b ∷ u, w, e, space, m) = rw e (apart p is_space ascii no-space b (and_parts (is_space b) (all is_space u) space).0)

  spaces_cut : (s : List ℕ) → matches (begun L) s → Cut (run is_space s) (from_v L) s
  spaces_cut s (u, w, e, space, m) = rw e (cut_seam (run is_space (u ++ w)) (from_v L) u w (run_whole is_space u w space (v_not is_space space_ascii refl refl w m)) m)

  -- the places of the layout, one after another
  epoch_place : (s : List ℕ) → matches (begun L) s → Cut (layout s).epoch (from_epoch L) s
  unfolding layout skip
  epoch_place s m =
      follow epoch_len (from_start L) (from_epoch L) epoch_cut s (layout s).start
      (follow v_len (from_v L) (from_start L) v_cut s (skip is_space s 0)
      (follow (run is_space) (begun L) (from_v L) spaces_cut s 0 (omega arith, m)))

  pub first_place : (s : List ℕ) → matches (begun L) s → Cut (layout s).first L s
  unfolding layout
  first_place s m = follow number_len (from_epoch L) L first_cut s (layout s).epoch (epoch_place s m)

  pub begun_there : (s : List ℕ) → matches (begun L) s → has_release (layout s) ≡ true
  unfolding layout
  begun_there s m = lt-ltb (layout s).epoch (layout s).first (omega (arith, first_there (drop (layout s).epoch s) (epoch_place s m).1))

-- What may follow a release: it goes on with no number.
pub record EndsRelease (K : Regex) : Type 0 where
  pub no_digit : (w : List ℕ) → matches K w → is_digit (byte_at w 0) ≡ false
  pub no_mark : (w : List ℕ) → matches K w → eqb (byte_at w 0) (code "!") ≡ false
  pub no_item : (w : List ℕ) → matches K w → (is_dot (byte_at w 0) && ltb 0 (number_len (drop 1 w))) ≡ false

module _ {K : Regex} (rest : EndsRelease K) where
  -- the numbers behind the first are taken whole
  pub others_whole : (u w : List ℕ) → matches (many (sign "." then number)) u → matches K w → more is_dot number_len (u ++ w) ≡ length u
  others_whole u w m k = joined_whole is_dot is_digit number_len number w (rest.no_digit w k) (dot_not is_digit refl) (λ u w m. number_whole u m w) number_there (rest.no_item w k) u m

  release_cut : (v : List ℕ) → matches (from_first K) v → Cut (more is_dot number_len v) K v
  release_cut v (u, w, e, m, k) = rw e (cut_seam (more is_dot number_len (u ++ w)) K u w (others_whole u w m k) k)

  -- behind the first number stands neither a digit nor `!`
  first_not : (p : ℕ → Bool) → p (code ".") ≡ false → ((w : List ℕ) → matches K w → p (byte_at w 0) ≡ false) → (v : List ℕ) → matches (from_first K) v → p (byte_at v 0) ≡ false
  first_not p dot out v (u, w, e, m, k) = rw e (more_first is_dot p number_len number w (out w k) (dot_not p dot) u m)

  pub ends_first : EndsFirst (from_first K)
  ends_first = record { no_digit = first_not is_digit refl rest.no_digit; no_mark = first_not (λ b. eqb b (code "!")) refl rest.no_mark }

  pub release_there : (s : List ℕ) → matches (released K) s → has_release (layout s) ≡ true
  release_there s m = begun_there ends_first s m

  pub release_place : (s : List ℕ) → matches (released K) s → Cut (layout s).release K s
  unfolding layout
  release_place s m = follow (more is_dot number_len) (from_first K) K release_cut s (layout s).first (first_place ends_first s m)
