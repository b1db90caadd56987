-- The refusal numbers, and a refusal's number, start and length.
use Rattle.std.specs.Prelude.{◌≡◌, ℕ, ◌<◌, ◌⊎◌, List, [], ◌∷◌, Result, Ok, Err, MatchResult}
use Rattle.refusal.specs.Answer.{Answer, good, refused}
use Rattle.refusal.specs.declared.fault.Fault.{Fault}
use Rattle.refusal.specs.declared.fault.Fault.TheVariants.{TooLong, NotAscii, NameMissing, NameStart, NameEnd, ExtrasOpen, ExtrasComma, ExtraStart, ExtraJoin, ExtraAfter, ExtraEnd, ExtrasMany, UrlEmpty, VersionBad, SpecifiersOpen, SpecifiersMany, LineGoesOn, ValueMissing, ValueUnknown, OperatorUnknown, NotUnspaced, ExpectedFoundEnd, ExpectedFoundOther, MarkerGoesOn, TooDeep, ComparisonsMany, WarningsMany, NameBad, OutputShort, ProgramBad, CountOver, SegmentsMany, TextEnded, NumberRepeated, RecordBad, LinesMany, CabinetBad, ClaimWrong, ClaimOutside, ClaimOpen, PieceLong}
use Rattle.refusal.specs.declared.fault.NoFault.{NoFault}
use Rattle.refusal.specs.declared.fault.Refusal.{Refusal}
use Rattle.refusal.specs.declared.place.Span.{Span}

-- "Spans are a start and a length in bytes from the start of the lent line."
abbrev pub span : ℕ → ℕ → Span
span start len = record { start = record { 0 = start }; len = len }

abbrev pub refusal : Fault → ℕ → ℕ → Refusal
refusal fault start len = record { fault = fault; span = span start len }

-- document 01's table "Refusal numbers", and the numbers of document 02's requests
abbrev pub fault_number : Fault → ℕ
fault_number TooLong = 1  -- over 4,096 bytes
fault_number NotAscii = 2  -- a byte of 128 or more
fault_number NameMissing = 3  -- no name before the end
fault_number NameStart = 4  -- first name byte not a letter or digit
fault_number NameEnd = 5  -- name ends in `.` `-` `_`
fault_number ExtrasOpen = 6  -- end of input inside `[`
fault_number ExtrasComma = 7  -- comma before the first extra
fault_number ExtraStart = 8  -- extra starts with another byte
fault_number ExtraJoin = 9  -- no comma between extras
fault_number ExtraAfter = 10  -- byte after an extra not `,` `]` or whitespace
fault_number ExtraEnd = 11  -- extra ends in `.` `-` `_`
fault_number ExtrasMany = 12  -- 33rd extra
fault_number UrlEmpty = 13  -- URL empty
fault_number VersionBad = 14  -- version, pattern or specifier text invalid
fault_number SpecifiersOpen = 15  -- `(` of specifiers not closed
fault_number SpecifiersMany = 16  -- 33rd specifier, itself valid
fault_number LineGoesOn = 17  -- line goes on after its last part
fault_number ValueMissing = 18  -- marker value wanted at the end
fault_number ValueUnknown = 19  -- unquoted value not a known name
fault_number OperatorUnknown = 20  -- operator token unknown
fault_number NotUnspaced = 21  -- no whitespace after `not`
fault_number ExpectedFoundEnd = 22  -- expected byte, found the end
fault_number ExpectedFoundOther = 23  -- expected byte, found another
fault_number MarkerGoesOn = 24  -- marker goes on
fault_number TooDeep = 25  -- 17th open parenthesis
fault_number ComparisonsMany = 26  -- 65th kept comparison
fault_number WarningsMany = 27  -- 65th warning
fault_number NameBad = 28  -- name not normalisable
fault_number OutputShort = 29  -- output shorter than the normal form
fault_number ProgramBad = 30  -- program breaks a stack rule
fault_number CountOver = 31  -- comparison count over 64
fault_number SegmentsMany = 32  -- more than 16 release or 8 local segments, in judging only
fault_number TextEnded = 33  -- piece or finish after the finish, or after 36
fault_number NumberRepeated = 34  -- comparison number more than once in a program to be explained
fault_number RecordBad = 35  -- record out of order, or a field that no line gives
fault_number LinesMany = 36  -- line after number 4,294,967,295, or a count that would exceed it
fault_number CabinetBad = 37  -- cabinet not made of its variable texts and its extras in normal form
fault_number ClaimWrong = 38  -- claimed answer not the one judged
fault_number ClaimOutside = 39  -- claimed set with a number not below the count
fault_number ClaimOpen = 40  -- claimed set that doesn't fix the answer
fault_number PieceLong = 41  -- piece over 512 bytes

-- the faults in the order of their numbers, from 1
abbrev pub faults : List Fault
faults = TooLong ∷ NotAscii ∷ NameMissing ∷ NameStart ∷ NameEnd ∷ ExtrasOpen ∷ ExtrasComma ∷ ExtraStart ∷ ExtraJoin ∷ ExtraAfter ∷ ExtraEnd ∷ ExtrasMany ∷ UrlEmpty ∷ VersionBad ∷ SpecifiersOpen ∷ SpecifiersMany ∷ LineGoesOn ∷ ValueMissing ∷ ValueUnknown ∷ OperatorUnknown ∷ NotUnspaced ∷ ExpectedFoundEnd ∷ ExpectedFoundOther ∷ MarkerGoesOn ∷ TooDeep ∷ ComparisonsMany ∷ WarningsMany ∷ NameBad ∷ OutputShort ∷ ProgramBad ∷ CountOver ∷ SegmentsMany ∷ TextEnded ∷ NumberRepeated ∷ RecordBad ∷ LinesMany ∷ CabinetBad ∷ ClaimWrong ∷ ClaimOutside ∷ ClaimOpen ∷ PieceLong ∷ []

-- the fault of a number, or the number itself if no fault has it
abbrev pub Numbers : ℕ → Result Fault NoFault → Type 0
Numbers n r = MatchResult r (λ fault. fault_number fault ≡ n) (λ e. (e.0 ≡ n) × ((n ≡ 0) ⊎ (41 < n)))

-- a refusal as an answer: its number, start and length
unfoldable pub given : {A : Type 0} → Refusal → Answer A
given why = refused (fault_number why.fault) why.span.start.0 why.span.len

-- a result as an answer: its value, or its refusal
abbrev pub told : {A : Type 0} → Result A Refusal → Answer A
told (Ok a) = good a
told (Err why) = given why
