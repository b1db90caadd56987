-- The laws of the parts before the marker, one stage after another: what the code found decides. Assumes nothing.
use mathlib.Core.Path.{◌≡◌, refl}
use mathlib.Core.Bool.{Bool, true, false}
use mathlib.Core.List.{List, []}
use Prim.Native.Nat.{ℕ, ◌+◌}
use Prim.Native.Char.{code}
use lib.Dec.{eqb}
use Rattle.std.specs.Prelude.{Option}
use Rattle.arrays.specs.Front.{onto}
use Rattle.refusal.specs.Answer.{Answer, good, on_good}
use Rattle.text.specs.Class.{is_space}
use Rattle.refusal.specs.Refusal.{given}
use Rattle.text.specs.Scan.{skip, byte_at}
use Rattle.cursor.proofs.Passed.{refused_on}
use Rattle.cursor.specs.declared.cursor.Cursor.{Cursor}
use Rattle.refusal.specs.declared.fault.Refusal.{Refusal}
use Rattle.refusal.specs.declared.place.Span.{Span}
use Rattle.spans.specs.Flat.{flat, spans_onto}
use Rattle.spans.specs.Listing.{spans_in, read_onto, counted}
use Rattle.line_extras.specs.Extras.{extras_at}
use Rattle.line_name.specs.Name.{name_at}
use Rattle.line_specifiers.specs.Specifiers.{specifiers_at}
use Rattle.line_url.specs.Url.{url_at}
use Rattle.line_head.specs.Head.{tail_at, by_url, by_list, wanted_at, texts_at, head_of, from_tail, from_wanted, from_extras, head, texts_from, extras_of, texts_of}
use Rattle.line_head.specs.declared.part.Wanted.{Wanted}

-- nothing written leaves an array as it was
unwritten : (old : List ℕ) → old ≡ spans_onto [] old
unfolding flat onto
unwritten old = refl

-- a URL, or specifiers
pub url_read : (a : Answer (Span × ℕ)) (url : Span) (next : ℕ) → good (url, next) ≡ a → good (Wanted.Url url, next) ≡ on_good by_url a
url_read a url next e = rw (← e)

pub url_refused : (why : Refusal) (a : Answer (Span × ℕ)) → given why ≡ a → given why ≡ on_good by_url a
url_refused = refused_on by_url

pub list_read : (a : Answer (ℕ × ℕ)) (n next : ℕ) → good (n, next) ≡ a → good (Wanted.Specifiers n, next) ≡ on_good by_list a
list_read a n next e = rw (← e)

pub list_refused : (why : Refusal) (a : Answer (ℕ × ℕ)) → given why ≡ a → given why ≡ on_good by_list a
list_refused = refused_on by_list

module _ (s : List ℕ) (at : ℕ) (r : Bool) (test : r ≡ eqb (byte_at s at) (code "@")) where
  pub wanted_url : (z : Answer (Wanted × ℕ)) → r ≡ true → z ≡ on_good by_url (url_at s (at + 1)) → z ≡ wanted_at s at
  unfolding wanted_at
  wanted_url z t e = rw (← test, t) e

  pub wanted_list : (z : Answer (Wanted × ℕ)) → r ≡ false → z ≡ on_good by_list (counted (specifiers_at s at)) → z ≡ wanted_at s at
  unfolding wanted_at
  wanted_list z t e = rw (← test, t) e

  pub texts_none : (old : List ℕ) → r ≡ true → old ≡ spans_onto (texts_at s at) old
  unfolding texts_at
  texts_none old t = rw (← test, t) (unwritten old)

  pub texts_list : (list old : List ℕ) → r ≡ false → list ≡ spans_onto (spans_in (specifiers_at s at)) old → list ≡ spans_onto (texts_at s at) old
  unfolding texts_at
  texts_list list old t e = rw (← test, t) e

pub ruleset texts = (texts_none, texts_list)

-- the name, or its refusal
module _ (s : List ℕ) (why : Refusal) (e : given why ≡ name_at s) where
  pub name_refused : given why ≡ head s
  unfolding head given
  name_refused = rw (← e)

  pub no_extras : (old : List ℕ) → old ≡ spans_onto (extras_of s) old
  unfolding extras_of given
  no_extras old = rw (← e) (unwritten old)

  pub no_texts : (old : List ℕ) → old ≡ spans_onto (texts_of s) old
  unfolding texts_of given
  no_texts old = rw (← e) (unwritten old)

module _ (s : List ℕ) (name : Span) (from : ℕ) (named : good (name, from) ≡ name_at s) where
  head_named : head s ≡ from_extras s name from
  unfolding head
  head_named = rw (← named)

  texts_named : texts_of s ≡ texts_from s from
  unfolding texts_of
  texts_named = rw (← named)

  -- after whitespace the extras
  module _ (at : ℕ) (spaces : at ≡ skip is_space s from) where
    pub extras_written : (list old : List ℕ) → list ≡ read_onto (extras_at s at) old → list ≡ spans_onto (extras_of s) old
    unfolding extras_of
    extras_written list old e = rw (← named, ← spaces) e

    module _ (why : Refusal) (e : given why ≡ counted (extras_at s at)) where
      pub extras_refused : given why ≡ head s
      unfolding from_extras given
      extras_refused = rw (head_named, ← spaces, ← e)

      pub texts_refused : (old : List ℕ) → old ≡ spans_onto (texts_of s) old
      unfolding texts_from given
      texts_refused old = rw (texts_named, ← spaces, ← e) (unwritten old)

    module _ (n past : ℕ) (read : good (n, past) ≡ counted (extras_at s at)) where
      head_read : head s ≡ from_wanted s name n past
      unfolding from_extras
      head_read = rw (head_named, ← spaces, ← read)

      -- after whitespace what is wanted
      module _ (place : ℕ) (more : place ≡ skip is_space s past) where
        pub texts_written : (list old : List ℕ) → list ≡ spans_onto (texts_at s place) old → list ≡ spans_onto (texts_of s) old
        unfolding texts_from
        texts_written list old e = rw (texts_named, ← spaces, ← read, ← more) e

        pub wanted_refused : (why : Refusal) → given why ≡ wanted_at s place → given why ≡ head s
        unfolding from_wanted given
        wanted_refused why e = rw (head_read, ← more, ← e)

        -- after whitespace the tail
        module _ (wanted : Wanted) (end last : ℕ) (asked : good (wanted, end) ≡ wanted_at s place) (rest : last ≡ skip is_space s end) where
          head_asked : head s ≡ from_tail s name n wanted end
          unfolding from_wanted
          head_asked = rw (head_read, ← more, ← asked)

          pub tail_refused : (why : Refusal) → given why ≡ tail_at s last → given why ≡ head s
          unfolding from_tail given
          tail_refused why e = rw (head_asked, ← rest, ← e)

          pub head_good : (marker : Option Cursor) → good marker ≡ tail_at s last → good (head_of name n wanted marker) ≡ head s
          unfolding from_tail
          head_good marker e = rw (head_asked, ← rest, ← e)
