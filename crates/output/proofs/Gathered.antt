use Rattle.std.proofs.Common.{rules, ◌≡◌, ℕ, ◌+◌, ◌<◌, ◌≤◌, List, [], ◌++◌, length, take, Bool, true, false, arith, sym, ap, refl, ◌∙◌}
use Rattle.std.proofs.lemmas.List.{append-nil, append_assoc, length-append, length-take-le}
use Rattle.output.specs.Gathered.{Gathered, Gathers}

not_both : {b : Bool} → b ≡ true → b ≡ false → ⊥
not_both t u = grind (rules, t, u)

-- as many wait as are counted
pub counted : (g : Gathered) (buf : List ℕ) (waiting : ℕ) (broken : Bool) → record { bytes = take waiting buf; broken = broken } ≡ g → waiting ≤ length buf → length g.bytes ≡ waiting
counted g buf waiting broken e l = sym (ap (λ (h : Gathered). length h.bytes) e) ∙ length-take-le waiting buf l

-- nothing has left
pub gathers_all : (old new : Gathered) (more : List ℕ) → old.broken ≡ false → new.bytes ≡ old.bytes ++ more → new.broken ≡ old.broken → Gathers old more new
gathers_all old new more u e b = record { last = ([], grind (rules, e)); whole = λ _ l. (e, grind (rules, b, u)); dropped = λ t. absurd (not_both t u) }

-- nothing waits any more, since a write failed or since not all finds room
pub gathers_none : (old new : Gathered) (more : List ℕ) → new.bytes ≡ [] → (old.broken ≡ false → length old.bytes + length more ≤ 65536 → ⊥) → (old.broken ≡ true → new.broken ≡ true) → Gathers old more new
gathers_none old new more e never stays = record { last = (old.bytes ++ more, rw (e, append-nil) search rules); whole = λ u l. absurd (never u l); dropped = λ t. (e, stays t) }

whole_same : (old now new : Gathered) (text rest : List ℕ) → (now ≡ old) × (rest ≡ text) → Gathers now rest new → old.broken ≡ false → length old.bytes + length text ≤ 65536 → (new.bytes ≡ old.bytes ++ text) × (new.broken ≡ false)
whole_same old now new text rest e g =
    let h : Gathers old text new = rw (e.0, e.1) at g in
    h.whole

-- what waits is written out first, since not all finds room
pub gathers_flushed : (old mid new : Gathered) (more : List ℕ) → 65536 < length old.bytes + length more → mid.bytes ≡ [] → (old.broken ≡ true → mid.broken ≡ true) →
    Gathers mid more new → Gathers old more new
gathers_flushed old mid new more over none stays g = record {
  last = (
    old.bytes ++ g.last.0,
    ap (λ l. old.bytes ++ l) (ap (λ l. l ++ more) (sym none) ∙ g.last.1) ∙ sym (append_assoc old.bytes g.last.0 new.bytes),
  );
  whole = λ u l. absurd (omega (arith, over, l));
  dropped = λ t. g.dropped (stays t);
}

-- one text behind the other
pub gathers_both : (old mid new : Gathered) (front back : List ℕ) → Gathers old front mid → Gathers mid back new → Gathers old (front ++ back) new
gathers_both old mid new front back f g = record {
  last = (
    f.last.0 ++ g.last.0,
    sym (append_assoc old.bytes front back)
        ∙ ap (λ l. l ++ back) f.last.1
        ∙ append_assoc f.last.0 mid.bytes back
        ∙ ap (λ l. f.last.0 ++ l) g.last.1
        ∙ sym (append_assoc f.last.0 g.last.0 new.bytes),
  );
  whole = λ u l.
      let both : length front + length back ≡ length (front ++ back) = sym (length-append front back) in
      let first = f.whole u (omega (arith, both, l)) in
      let here : length mid.bytes ≡ length old.bytes + length front = ap length first.0 ∙ length-append old.bytes front in
      let second = g.whole first.1 (omega (arith, both, here, l)) in
      (second.0 ∙ ap (λ (l : List ℕ). l ++ back) first.0 ∙ append_assoc old.bytes front back, second.1);
  dropped = λ t. g.dropped (f.dropped t).1;
}

-- how far a text is put that is put part by part: `rest` is still to come, and what was put went behind what waited before
pub record Filling (old : Gathered) (text : List ℕ) (now : Gathered) (rest : List ℕ) : Type 0 where
  pub done : List ℕ
  pub split : text ≡ done ++ rest
  pub last : (gone : List ℕ) × (old.bytes ++ done ≡ gone ++ now.bytes)
  pub same : length old.bytes + length text ≤ 65536 → (now ≡ old) × (rest ≡ text)
  pub stays : old.broken ≡ true → now.broken ≡ true

pub filling_start : (old : Gathered) (text : List ℕ) → Filling old text old text
filling_start old text = record { done = []; split = refl; last = ([], append-nil old.bytes); same = λ l. (refl, refl); stays = λ t. t }

module _ (old : Gathered) (text : List ℕ) (now : Gathered) (rest : List ℕ) (f : Filling old text now rest) where
  too_long : 65536 < length now.bytes + length rest → length old.bytes + length text ≤ 65536 → ⊥
  too_long more l =
      let e = f.same l in
      let a : length now.bytes ≡ length old.bytes = ap (λ (g : Gathered). length g.bytes) e.0 in
      let b : length rest ≡ length text = ap length e.1 in
      omega (arith, more, l)

  -- a part fills the array, which is written out
  pub filling_turn : (front back : List ℕ) (mid new : Gathered) → rest ≡ front ++ back → 65536 < length now.bytes + length rest → Gathers now front mid →
      new.bytes ≡ [] → (mid.broken ≡ true → new.broken ≡ true) → Filling old text new back
  filling_turn front back mid new parts more g none stays = record {
    done = f.done ++ front;
    split = f.split ∙ ap (λ l. f.done ++ l) parts ∙ sym (append_assoc f.done front back);
    last = (
      (f.last.0 ++ g.last.0) ++ mid.bytes,
      sym (append_assoc old.bytes f.done front)
          ∙ ap (λ l. l ++ front) f.last.1
          ∙ append_assoc f.last.0 now.bytes front
          ∙ ap (λ l. f.last.0 ++ l) g.last.1
          ∙ sym (append_assoc f.last.0 g.last.0 mid.bytes)
          ∙ sym (append-nil ((f.last.0 ++ g.last.0) ++ mid.bytes))
          ∙ ap (λ l. ((f.last.0 ++ g.last.0) ++ mid.bytes) ++ l) (sym none),
    );
    same = λ l. absurd (too_long more l);
    stays = λ t. stays (g.dropped (f.stays t)).1;
  }

  -- the last part stays
  pub filling_end : (new : Gathered) → Gathers now rest new → Gathers old text new
  filling_end new g = record {
    last = (
      f.last.0 ++ g.last.0,
      ap (λ l. old.bytes ++ l) f.split
          ∙ sym (append_assoc old.bytes f.done rest)
          ∙ ap (λ l. l ++ rest) f.last.1
          ∙ append_assoc f.last.0 now.bytes rest
          ∙ ap (λ l. f.last.0 ++ l) g.last.1
          ∙ sym (append_assoc f.last.0 g.last.0 new.bytes),
    );
    whole = λ u l. whole_same old now new text rest (f.same l) g u l;
    dropped = λ t. g.dropped (f.stays t);
  }
