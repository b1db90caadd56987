-- The operators of a specifier.
use Rattle.std.specs.Prelude.{ℕ, true, false, cond, List, [], ◌∷◌, Option, Some, None}
use Prim.Native.String.{String}
use Rattle.text.specs.Word.{bytes, spells}
use Rattle.refusal.specs.declared.place.Span.{Span}
use Rattle.version_operator.specs.declared.operator.Operator.{Operator}
use Rattle.version_operator.specs.declared.operator.Operator.TheVariants.{LessEqual, Less, NotEqual, Equal, GreaterEqual, Greater, Compatible, Exact}
use Rattle.version_operator.specs.declared.operator.Takes.{Takes}

-- "Operators are `<= < != == >= > ~= ===`."
abbrev pub spelling : Operator → String
spelling LessEqual = "<="
spelling Less = "<"
spelling NotEqual = "!="
spelling Equal = "=="
spelling GreaterEqual = ">="
spelling Greater = ">"
spelling Compatible = "~="
spelling Exact = "==="

-- in that order
abbrev pub operators : List Operator
operators = LessEqual ∷ Less ∷ NotEqual ∷ Equal ∷ GreaterEqual ∷ Greater ∷ Compatible ∷ Exact ∷ []

-- which of some operators a part of a text spells
unfoldable pub operator_among : List Operator → List ℕ → Span → Option Operator
operator_among [] s at = None
operator_among (op ∷ ops) s at = cond (spells (bytes (spelling op)) s at) (Some op) (operator_among ops s at)

-- the operator that a part of a text spells, if it spells one
abbrev pub operator_in : List ℕ → Span → Option Operator
operator_in s at = operator_among operators s at

-- "`.*` goes only with `==` and `!=`. `~=` needs two release numbers. A local part goes only with `==`, `!=`, `===`."
abbrev pub takes : Operator → Takes
takes LessEqual = record { star = false; local = false; two = false }
takes Less = record { star = false; local = false; two = false }
takes NotEqual = record { star = true; local = true; two = false }
takes Equal = record { star = true; local = true; two = false }
takes GreaterEqual = record { star = false; local = false; two = false }
takes Greater = record { star = false; local = false; two = false }
takes Compatible = record { star = false; local = false; two = true }
takes Exact = record { star = false; local = true; two = false }
