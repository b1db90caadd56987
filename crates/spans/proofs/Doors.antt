-- What a door makes of a list that was read into a local array. Assumes nothing.
use mathlib.Core.Path.{◌≡◌, sym, ap}
use mathlib.Core.List.{List}
use Prim.Native.Nat.{ℕ, ◌≤◌}
use native.Mathlib.Omega.{arith}
use lib.ListN.{length, replicate}
use Rattle.refusal.specs.Answer.{Answer, good, refused, on_good}
use Rattle.refusal.specs.Refusal.{given}
use Rattle.refusal.specs.declared.fault.Refusal.{Refusal}
use Rattle.refusal.specs.declared.place.Span.{Span}
use Rattle.spans.proofs.Arrays.{load_onto}
use Rattle.spans.specs.Flat.{spans_onto, loaded, list_numbers}
use Rattle.cursor.specs.Limits.{max_list}
use Rattle.spans.specs.Listing.{Listing, spans_in, outcome, list_in, counted}

module _ (r : Listing) where
  module _ (n at : ℕ) (read : good (n, at) ≡ counted r) where
    both : (outcome r ≡ good at) × (n ≡ length (spans_in r))
    both = go (outcome r) read
      where
        go : (o : Answer ℕ) → ◌≡◌ {A = Answer (ℕ × ℕ)} (good (n, at)) (on_good (λ end. (length (spans_in r), end)) o) → (o ≡ good at) × (n ≡ length (spans_in r))
        go (good end) h = let p : ◌≡◌ {A = ℕ × ℕ} (n, at) (length (spans_in r), end) = cc in (ap good (sym (ap (λ (q : ℕ × ℕ). q.1) p)), ap (λ (q : ℕ × ℕ). q.0) p)
        go (refused number start len) h = let z : ◌≡◌ {A = ℕ} 0 1 = cc in absurd (omega arith)

    pub read_next : outcome r ≡ good at
    read_next = both.0

    pub read_count : n ≡ length (spans_in r)
    read_count = both.1

    pub read_list : list_in r ≡ good (spans_in r)
    read_list = rw read_next

    pub read_few : length (spans_in r) ≤ max_list → n ≤ max_list
    read_few h = rw read_count h

    pub read_loaded : (list : List ℕ) → length (spans_in r) ≤ max_list → list ≡ spans_onto (spans_in r) (replicate list_numbers 0) → loaded n list ≡ spans_in r
    read_loaded list few f = rw (f, read_count) (load_onto (spans_in r) (replicate list_numbers 0) (omega arith))

  pub refused_list : (why : Refusal) → given why ≡ counted r → given why ≡ list_in r
  unfolding given
  refused_list why e = go (outcome r) e
    where
      go : (o : Answer ℕ) → ◌≡◌ {A = Answer (ℕ × ℕ)} (given why) (on_good (λ end. (length (spans_in r), end)) o) → ◌≡◌ {A = Answer (List Span)} (given why) (on_good (λ end. spans_in r) o)
      go (good end) h = let z : ◌≡◌ {A = ℕ} 0 1 = cc in absurd (omega arith)
      go (refused number start len) h = cc
