-- The texts of a list of specifiers, one at a time. A text is judged where it ends, by the version rules' own definition.
use Rattle.std.specs.Prelude.{ℕ, ◌+◌, ◌-◌, Bool, cond, List, ltb, eqb, length, take, drop, Result, Ok, Err}
use Prim.Native.Char.{code}
use Rattle.text.specs.Class.{is_bare_byte, is_enclosed_byte}
use Rattle.cursor.specs.Cursor.{cursor}
use Rattle.refusal.specs.Refusal.{span, refusal}
use Rattle.text.specs.Scan.{skip, byte_at}
use Rattle.refusal.specs.declared.fault.Fault.TheVariants.{VersionBad, SpecifiersOpen}
use Rattle.refusal.specs.declared.fault.Refusal.{Refusal}
use Rattle.spans.specs.declared.item.Item.{Item}
use Rattle.spans.specs.declared.item.Item.TheVariants.{One, End}
use Rattle.version.specs.Rules.{is_specifier}
use Rattle.line_specifiers.specs.declared.specifier.Form.{Form}
use Rattle.line_specifiers.specs.declared.specifier.Form.TheVariants.{Bare, Enclosed}

-- "14: version, pattern or specifier text invalid: the text": the text from one place to another
unfoldable pub text_to : List ℕ → ℕ → ℕ → Result Item Refusal
text_to s from stop =
    cond (is_specifier (take (stop - from) (drop from s)))
    (Ok (One (span from (stop - from)) (cursor stop)))
    (Err (refusal VersionBad from (stop - from)))

-- "15: `(` of specifiers not closed: it, 1"; "in parentheses to `)`, where a `;` belongs to the text"
abbrev pub enclosed_at : List ℕ → ℕ → ℕ → Result Item Refusal
enclosed_at s bracket from =
    let stop = skip is_enclosed_byte s from in
    cond (ltb stop (length s)) (text_to s from stop) (Err (refusal SpecifiersOpen bracket 1))

-- "Bare, they run to `;` or the end"
abbrev pub text_at : List ℕ → Form → ℕ → Result Item Refusal
text_at s Bare from = text_to s from (skip is_bare_byte s from)
text_at s (Enclosed bracket) from = enclosed_at s bracket from

-- the end of the list: past its `)`, or before the `;` or the end of the line
abbrev pub last_at : List ℕ → ℕ → Result Item Refusal
last_at s at = cond (eqb (byte_at s at) (code ")")) (Ok (End (cursor (at + 1)))) (Ok (End (cursor at)))

-- "Specifiers are split at commas."; "each later one just after its comma"
abbrev pub later_at : List ℕ → Form → ℕ → Result Item Refusal
later_at s form at = let text = text_at s form (at + 1) in cond (eqb (byte_at s at) (code ",")) text (last_at s at)

unfoldable pub item_at : List ℕ → Form → Bool → ℕ → Result Item Refusal
item_at s form fresh at = cond fresh (text_at s form at) (later_at s form at)
