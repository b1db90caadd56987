-- A bounded list of spans, read item by item from left to right.
use Rattle.std.specs.Prelude.{ℕ, zero, suc, Bool, false, List, [], ◌∷◌, length, Result, Ok, Err}
use Rattle.refusal.specs.Answer.{Answer, good, on_good}
use Rattle.refusal.specs.Refusal.{given}
use Rattle.refusal.specs.declared.fault.Fault.{Fault}
use Rattle.refusal.specs.declared.fault.Refusal.{Refusal}
use Rattle.refusal.specs.declared.place.Span.{Span}
use Rattle.spans.specs.Flat.{spans_onto}
use Rattle.spans.specs.declared.item.Item.{Item}
use Rattle.spans.specs.declared.item.Item.TheVariants.{One, End}

-- the spans in order, and then where reading goes on, or why the line is refused
pub data Listing : Type 0 where
  then : Span → Listing → Listing
  ends : ℕ → Listing
  fails : Refusal → Listing

abbrev pub follow : Result Item Refusal → (Span → ℕ → Listing) → Listing
follow (Ok (One x next)) more = more x next.at
follow (Ok (End next)) more = ends next.at
follow (Err why) more = fails why

-- the list whose items `item` says, by whether the first is still to come and by the place; k more may come, and one more than that is refused as `many`
unfoldable pub list_from : Fault → (Bool → ℕ → Result Item Refusal) → ℕ → Bool → ℕ → Listing
list_from many item zero fresh at = follow (item fresh at) (λ x next. fails (record { fault = many; span = x }))
list_from many item (suc k) fresh at = follow (item fresh at) (λ x next. then x (list_from many item k false next))

-- the spans read
unfoldable pub spans_in : Listing → List Span
spans_in (then x r) = x ∷ spans_in r
spans_in (ends at) = []
spans_in (fails why) = []

-- these over the front of an array
abbrev pub read_onto : Listing → List ℕ → List ℕ
read_onto r old = spans_onto (spans_in r) old

-- where reading goes on
unfoldable pub outcome : Listing → Answer ℕ
outcome (then x r) = outcome r
outcome (ends at) = good at
outcome (fails why) = given why

-- "A refusal carries number, start, length and nothing else; all lists are empty."
abbrev pub list_in : Listing → Answer (List Span)
list_in r = on_good (λ at. spans_in r) (outcome r)

-- how many, and where reading goes on
abbrev pub counted : Listing → Answer (ℕ × ℕ)
counted r = on_good (λ at. (length (spans_in r), at)) (outcome r)
