-- The laws of the typed door: a line's parts and its marker put together. Assumes nothing.
use mathlib.Core.Path.{◌≡◌, ap, ◌∙◌}
use mathlib.Core.List.{List}
use Prim.Native.Nat.{ℕ}
use native.Mathlib.Omega.{arith}
use lib.ListN.{length, replicate}
use Rattle.std.specs.Prelude.{Result, Ok, Option}
use Rattle.refusal.specs.Answer.{Answer, good, refused, passes, on_good}
use Rattle.cursor.specs.Check.{checked}
use Rattle.refusal.specs.Refusal.{given, told}
use Rattle.refusal.specs.declared.fault.Refusal.{Refusal}
use Rattle.refusal.specs.declared.place.Span.{Span}
use Rattle.spans.specs.Flat.{spans_onto, loaded, list_numbers}
use Rattle.line_head.specs.Head.{head, extras_of, texts_of, text_count}
use Rattle.line_head.specs.declared.part.Head.{Head}
use Rattle.marker_typed.specs.Lists.{lists_of}
use Rattle.marker_steps.specs.Marking.{Marking}
use Rattle.marker_typed.specs.declared.gather.Lists.{Lists}
use Rattle.line.proofs.Quickly.{counts, names_are, asked_are, line_is}
use Rattle.line.specs.Line.{url_of, parts_of, marked, line_answer}
use Rattle.line_typed.specs.Requirement.{list_of, filled}
use Rattle.line_typed.specs.inner.Found.{first_of}
use Rattle.line_typed.specs.declared.door.Requirement.{Requirement}
use Rattle.line_typed.specs.declared.door.SpanList.{SpanList}

module _ (s : List ℕ) (h : Head) (read : good h ≡ head s) where
  extras_list : (list : List ℕ) → list ≡ spans_onto (extras_of s) (replicate list_numbers 0) → first_of h.extras list ≡ list_of (extras_of s)
  extras_list list array = rw (names_are s h read list array, (counts s h read).named)

  texts_list : (texts : List ℕ) (n : ℕ) → n ≡ text_count h.wanted → texts ≡ spans_onto (texts_of s) (replicate list_numbers 0) → first_of n texts ≡ list_of (texts_of s)
  texts_list texts n e array =
      let size : n ≡ length (texts_of s) = e ∙ (counts s h read).asked in
      let all : loaded n texts ≡ texts_of s = ap (λ (m : ℕ). loaded m texts) e ∙ asked_are s h read texts array in
      rw (all, size)

  -- and the check before it passes
  module _ (k : Result (Unit {0}) Refusal) (made : told k ≡ checked s passes) (passed : k ≡ Ok tt) where
    is : line_answer s ≡ on_good (parts_of s h) (marked s h.marker)
    is = line_is s h read k made passed

    -- the marker is refused, or read
    pub marker_refused : (why : Refusal) → given why ≡ on_good lists_of (marked s h.marker) → given why ≡ line_answer s
    unfolding given
    marker_refused why e = go (marked s h.marker) is e
      where
        go : (m : Answer Marking) → line_answer s ≡ on_good (parts_of s h) m → given why ≡ on_good lists_of m → given why ≡ line_answer s
        go (good m) l f = let z : ◌≡◌ {A = ℕ} 0 1 = cc in absurd (omega arith)
        go (refused number start len) l f = cc

    pub whole_read : (l : Lists) (n : ℕ) (named asked : List ℕ) (e t : SpanList) (u : Option Span) → good l ≡ on_good lists_of (marked s h.marker) → named ≡ spans_onto (extras_of s) (replicate list_numbers 0) → asked ≡ spans_onto (texts_of s) (replicate list_numbers 0) → n ≡ text_count h.wanted → e ≡ first_of h.extras named → t ≡ first_of n asked → u ≡ url_of h.wanted → ◌≡◌ {A = Answer Requirement} (good (record { name = h.name; extras = e; specifiers = t; url = u; marker = l })) (on_good filled (line_answer s))
    whole_read l n named asked e t u read' first second size left right link = go (marked s h.marker) is read'
      where
        go : (m : Answer Marking) → line_answer s ≡ on_good (parts_of s h) m → good l ≡ on_good lists_of m → ◌≡◌ {A = Answer Requirement} (good (record { name = h.name; extras = e; specifiers = t; url = u; marker = l })) (on_good filled (line_answer s))
        go (good m) l' f =
            let lists : l ≡ lists_of m = cc in
            let extras : e ≡ list_of (extras_of s) = left ∙ extras_list named first in
            let texts : t ≡ list_of (texts_of s) = right ∙ texts_list asked n size second in
            rw (l', lists, extras, texts, link)
        go (refused number start len) l' f = let z : ◌≡◌ {A = ℕ} 0 1 = cc in absurd (omega arith)
