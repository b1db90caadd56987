-- The counts of a head are those of its lists, and at most 32. Assumes nothing.
use mathlib.Core.Path.{◌≡◌, refl}
use mathlib.Core.Bool.{Bool, true, false, cond}
use mathlib.Core.List.{List, []}
use Prim.Native.Nat.{ℕ, ◌+◌, ◌≤◌, zero-le}
use Prim.Native.Char.{code}
use lib.Dec.{eqb}
use lib.ListN.{length}
use Rattle.std.specs.Prelude.{Option}
use Rattle.refusal.specs.Answer.{Answer, good, refused, on_good, and_then}
use Rattle.text.specs.Class.{is_space}
use Rattle.text.specs.Scan.{skip, byte_at}
use Rattle.cursor.specs.declared.cursor.Cursor.{Cursor}
use Rattle.refusal.specs.declared.place.Span.{Span}
use Rattle.spans.specs.Listing.{Listing, spans_in, outcome, counted}
use Rattle.line_extras.proofs.Laws.{extras_few}
use Rattle.line_extras.specs.Extras.{extras_at}
use Rattle.line_name.specs.Name.{name_at}
use Rattle.line_specifiers.proofs.Laws.{specifiers_few}
use Rattle.line_specifiers.specs.Specifiers.{specifiers_at}
use Rattle.line_url.specs.Url.{url_at}
use Rattle.line_head.proofs.Within.{On, on_then}
use Rattle.line_head.specs.Head.{behind, tail_at, by_url, by_list, wanted_at, texts_at, text_count, head_of, from_tail, from_wanted, from_extras, head, texts_from, extras_of, texts_of}
use Rattle.line_head.specs.declared.part.Head.{Head}
use Rattle.line_head.specs.declared.part.Wanted.{Wanted}
use Rattle.cursor.specs.Limits.{max_list}

pub record Counts (extras texts : List Span) (h : Head) : Type 0 where
  pub named : h.extras ≡ length extras
  pub asked : text_count h.wanted ≡ length texts

-- a list's length with where it ends: `counted` of a reading is this of its spans and its outcome
abbrev sized : List Span → Answer ℕ → Answer (ℕ × ℕ)
sized l a = on_good (λ at. (length l, at)) a

-- what is wanted at a place
abbrev Asks : List Span → Wanted × ℕ → Type 0
Asks texts w = text_count w.0 ≡ length texts

url_asks : (a : Answer (Span × ℕ)) → On (Asks []) (on_good by_url a)
url_asks (good u) = refl
url_asks (refused number start len) = tt

list_asks : (r : Listing) (a : Answer ℕ) → On (Asks (spans_in r)) (on_good by_list (sized (spans_in r) a))
list_asks r (good at) = refl
list_asks r (refused number start len) = tt

wanted_asks : (s : List ℕ) (at : ℕ) → On (Asks (texts_at s at)) (wanted_at s at)
unfolding wanted_at texts_at
wanted_asks s at = go (eqb (byte_at s at) (code "@"))
  where
    go : (t : Bool) → On (Asks (cond t [] (spans_in (specifiers_at s at)))) (cond t (on_good by_url (url_at s (at + 1))) (on_good by_list (counted (specifiers_at s at))))
    go true = url_asks (url_at s (at + 1))
    go false = list_asks (specifiers_at s at) (outcome (specifiers_at s at))

module _ (s : List ℕ) where
  wanted_counts : (name : Span) (extras : List Span) (at : ℕ) → On (Counts extras (texts_at s (skip is_space s at))) (from_wanted s name (length extras) at)
  unfolding from_wanted from_tail
  wanted_counts name extras at =
      let texts = texts_at s (skip is_space s at) in
      on_then (Asks texts) (Counts extras texts) (wanted_at s (skip is_space s at)) _ (wanted_asks s (skip is_space s at))
      (λ w p. all w.0 (tail_at s (skip is_space s w.1)) p)
    where
      all : (wanted : Wanted) (a : Answer (Option Cursor)) → text_count wanted ≡ length (texts_at s (skip is_space s at)) → On (Counts extras (texts_at s (skip is_space s at))) (on_good (λ tail. head_of name (length extras) wanted tail) a)
      all wanted (good tail) p = record { named = refl; asked = p }
      all wanted (refused number start len) p = tt

  extras_counts : (name : Span) (at : ℕ) → On (Counts (spans_in (extras_at s (skip is_space s at))) (texts_from s at)) (from_extras s name at)
  unfolding from_extras texts_from
  extras_counts name at = go (outcome (extras_at s (skip is_space s at)))
    where
      go : (a : Answer ℕ) → On (Counts (spans_in (extras_at s (skip is_space s at))) (behind (sized (spans_in (extras_at s (skip is_space s at))) a) (λ e. texts_at s (skip is_space s e.1)))) (and_then (sized (spans_in (extras_at s (skip is_space s at))) a) (λ e. from_wanted s name e.0 e.1))
      go (good next) = wanted_counts name (spans_in (extras_at s (skip is_space s at))) next
      go (refused number start len) = tt

  pub head_counts : On (Counts (extras_of s) (texts_of s)) (head s)
  unfolding head extras_of texts_of
  head_counts = go (name_at s)
    where
      go : (a : Answer (Span × ℕ)) → On (Counts (behind a (λ n. spans_in (extras_at s (skip is_space s n.1)))) (behind a (λ n. texts_from s n.1))) (and_then a (λ n. from_extras s n.0 n.1))
      go (good n) = extras_counts n.0 n.1
      go (refused number start len) = tt

  pub extras_of_few : length (extras_of s) ≤ max_list
  unfolding extras_of
  extras_of_few = go (name_at s)
    where
      go : (a : Answer (Span × ℕ)) → length (behind a (λ n. spans_in (extras_at s (skip is_space s n.1)))) ≤ max_list
      go (good n) = extras_few s (skip is_space s n.1)
      go (refused number start len) = zero-le

  texts_few : (at : ℕ) → length (texts_at s at) ≤ max_list
  unfolding texts_at
  texts_few at = go (eqb (byte_at s at) (code "@"))
    where
      go : (t : Bool) → length (cond t [] (spans_in (specifiers_at s at))) ≤ max_list
      go true = zero-le
      go false = specifiers_few s at

  pub texts_of_few : length (texts_of s) ≤ max_list
  unfolding texts_of texts_from
  texts_of_few = go (name_at s)
    where
      in_extras : (a : Answer (ℕ × ℕ)) → length (behind a (λ e. texts_at s (skip is_space s e.1))) ≤ max_list
      in_extras (good e) = texts_few (skip is_space s e.1)
      in_extras (refused number start len) = zero-le

      go : (a : Answer (Span × ℕ)) → length (behind a (λ n. behind (counted (extras_at s (skip is_space s n.1))) (λ e. texts_at s (skip is_space s e.1)))) ≤ max_list
      go (good n) = in_extras (counted (extras_at s (skip is_space s n.1)))
      go (refused number start len) = zero-le
