-- Each fault has one of the documents' numbers 1 to 41, each of these is one fault's, so an answer in the documents' terms leaves one refusal.
-- Assumes nothing.
use mathlib.Core.Path.{◌≡◌, refl, sym, ap, ◌∙◌}
use mathlib.Core.List.{List, [], ◌∷◌, map}
use Prim.Native.Nat.{ℕ, zero, suc, ◌-◌}
use lib.ListN.{get_or}
use Rattle.std.specs.Prelude.{Result, Ok, Err}
use Rattle.refusal.specs.Answer.{refused}
use Rattle.refusal.specs.Refusal.{fault_number, faults, refusal, given, told}
use Rattle.refusal.specs.declared.fault.Fault.{Fault}
use Rattle.refusal.specs.declared.fault.Fault.TheVariants.{TooLong, NotAscii, NameMissing, NameStart, NameEnd, ExtrasOpen, ExtrasComma, ExtraStart, ExtraJoin, ExtraAfter, ExtraEnd, ExtrasMany, UrlEmpty, VersionBad, SpecifiersOpen, SpecifiersMany, LineGoesOn, ValueMissing, ValueUnknown, OperatorUnknown, NotUnspaced, ExpectedFoundEnd, ExpectedFoundOther, MarkerGoesOn, TooDeep, ComparisonsMany, WarningsMany, NameBad, OutputShort, ProgramBad, CountOver, SegmentsMany, TextEnded, NumberRepeated, RecordBad, LinesMany, CabinetBad, ClaimWrong, ClaimOutside, ClaimOpen, PieceLong}
use Rattle.refusal.specs.declared.fault.Refusal.{Refusal}

-- from its number a fault is found again
pub numbered : (f : Fault) → get_or faults (fault_number f - 1) TooLong ≡ f
numbered TooLong = refl
numbered NotAscii = refl
numbered NameMissing = refl
numbered NameStart = refl
numbered NameEnd = refl
numbered ExtrasOpen = refl
numbered ExtrasComma = refl
numbered ExtraStart = refl
numbered ExtraJoin = refl
numbered ExtraAfter = refl
numbered ExtraEnd = refl
numbered ExtrasMany = refl
numbered UrlEmpty = refl
numbered VersionBad = refl
numbered SpecifiersOpen = refl
numbered SpecifiersMany = refl
numbered LineGoesOn = refl
numbered ValueMissing = refl
numbered ValueUnknown = refl
numbered OperatorUnknown = refl
numbered NotUnspaced = refl
numbered ExpectedFoundEnd = refl
numbered ExpectedFoundOther = refl
numbered MarkerGoesOn = refl
numbered TooDeep = refl
numbered ComparisonsMany = refl
numbered WarningsMany = refl
numbered NameBad = refl
numbered OutputShort = refl
numbered ProgramBad = refl
numbered CountOver = refl
numbered SegmentsMany = refl
numbered TextEnded = refl
numbered NumberRepeated = refl
numbered RecordBad = refl
numbered LinesMany = refl
numbered CabinetBad = refl
numbered ClaimWrong = refl
numbered ClaimOutside = refl
numbered ClaimOpen = refl
numbered PieceLong = refl

-- no two faults share a number
pub number_own : (f g : Fault) → fault_number f ≡ fault_number g → f ≡ g
number_own f g e = sym (numbered f) ∙ rw e (numbered g)

-- so many numbers from a first one
abbrev count_from : ℕ → ℕ → List ℕ
count_from first zero = []
count_from first (suc n) = first ∷ count_from (suc first) n

-- each of 1 to 41 is a fault's
pub number_all : map fault_number faults ≡ count_from 1 41
number_all = refl

pub given_own : {A : Type 0} (v w : Refusal) → given {A = A} v ≡ given w → v ≡ w
unfolding given
given_own v w e =
    let n : fault_number v.fault ≡ fault_number w.fault = cc in
    let start : v.span.start.0 ≡ w.span.start.0 = cc in
    let len : v.span.len ≡ w.span.len = cc in
    λ i. record {
      fault = number_own v.fault w.fault n i;
      span = record { start = record { 0 = start i }; len = len i };
    }

-- and a result told so leaves one result
pub told_own : {A : Type 0} (v w : Result A Refusal) → told v ≡ told w → v ≡ w
told_own (Ok v) (Ok w) e = cc
told_own (Ok v) (Err w) e = unfold given in cc
told_own (Err v) (Ok w) e = unfold given in cc
told_own (Err v) (Err w) e = ap Err (given_own v w e)

-- a refusal that the code made, in the documents' terms
pub given_is : {A : Type 0} (why : Refusal) (f : Fault) (a b n m : ℕ) → why ≡ refusal f a n → a ≡ b → fault_number f ≡ m → given {A = A} why ≡ refused m b n
unfolding given
given_is why f a b n m made e number = rw (made, e, number)
