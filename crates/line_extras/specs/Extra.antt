-- What stands at a place inside the brackets, the bracket at `bracket`: a definition for each decision.
use Rattle.std.specs.Prelude.{ℕ, ◌+◌, ◌-◌, Bool, cond, not, ◌&&◌, ◌||◌, List, ltb, eqb, length, Result, Ok, Err}
use Prim.Native.Char.{code}
use Rattle.text.specs.Class.{is_space, is_alnum, is_separator, is_name_byte}
use Rattle.cursor.specs.Cursor.{cursor}
use Rattle.refusal.specs.Refusal.{span, refusal}
use Rattle.text.specs.Scan.{skip, byte_at}
use Rattle.refusal.specs.declared.fault.Refusal.{Refusal}
use Rattle.refusal.specs.declared.fault.Fault.TheVariants.{ExtrasOpen, ExtrasComma, ExtraStart, ExtraJoin, ExtraAfter, ExtraEnd}
use Rattle.spans.specs.declared.item.Item.{Item}
use Rattle.spans.specs.declared.item.Item.TheVariants.{One, End}

-- "10: byte after an extra not `,` `]` or whitespace: it, 1"
abbrev pub may_follow : ℕ → Bool
may_follow b = eqb b (code ",") || eqb b (code "]") || is_space b

abbrev pub stranger_at : List ℕ → ℕ → Bool
stranger_at s at = ltb at (length s) && not (may_follow (byte_at s at))

-- "11: extra ends in `.` `-` `_`: that byte, 1"; else the extra, and the place after the whitespace behind it
abbrev pub ended_at : List ℕ → ℕ → ℕ → Result Item Refusal
ended_at s start stop =
    cond (is_separator (byte_at s (stop - 1))) (Err (refusal ExtraEnd (stop - 1) 1))
    (Ok (One (span start (stop - start)) (cursor (skip is_space s stop))))

-- "Order at one place: 10, 11, 12"
abbrev pub extra_to : List ℕ → ℕ → ℕ → Result Item Refusal
extra_to s start stop = cond (stranger_at s stop) (Err (refusal ExtraAfter stop 1)) (ended_at s start stop)

-- "A name is a letter or digit, then all following letters, digits, `.`, `-`, `_`."; "8: extra starts with another byte: it, 1"
abbrev pub extra_at : List ℕ → ℕ → Result Item Refusal
extra_at s at = cond (is_alnum (byte_at s at)) (extra_to s at (skip is_name_byte s at)) (Err (refusal ExtraStart at 1))

-- "6: end of input inside `[`: the bracket, 1"
abbrev pub or_open : List ℕ → ℕ → ℕ → Result Item Refusal → Result Item Refusal
or_open s bracket at item = cond (ltb at (length s)) item (Err (refusal ExtrasOpen bracket 1))

-- "7: comma before the first extra: it, 1"
abbrev pub first_at : List ℕ → ℕ → Result Item Refusal
first_at s at = cond (eqb (byte_at s at) (code ",")) (Err (refusal ExtrasComma at 1)) (extra_at s at)

-- "extras separated by commas with whitespace around"; "9: no comma between extras: found byte, 1"
abbrev pub later_at : List ℕ → ℕ → ℕ → Result Item Refusal
later_at s bracket at =
    let past = skip is_space s (at + 1) in
    cond (eqb (byte_at s at) (code ",")) (or_open s bracket past (extra_at s past)) (Err (refusal ExtraJoin at 1))

-- "then `]` or extras"
abbrev pub inside_at : List ℕ → ℕ → Bool → ℕ → Result Item Refusal
inside_at s bracket fresh at =
    cond (eqb (byte_at s at) (code "]")) (Ok (End (cursor (at + 1))))
    (cond fresh (first_at s at) (later_at s bracket at))

unfoldable pub item_at : List ℕ → ℕ → Bool → ℕ → Result Item Refusal
item_at s bracket fresh at = or_open s bracket at (inside_at s bracket fresh at)
