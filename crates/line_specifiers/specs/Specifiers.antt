-- The specifiers that stand at a place of a line.
use Rattle.std.specs.Prelude.{ℕ, ◌+◌, true, cond, List, eqb}
use Prim.Native.Char.{code}
use Rattle.text.specs.Class.{is_space, is_operator_byte}
use Rattle.text.specs.Scan.{skip, byte_at}
use Rattle.refusal.specs.declared.fault.Fault.TheVariants.{SpecifiersMany}
use Rattle.cursor.specs.Limits.{max_list}
use Rattle.spans.specs.Listing.{Listing, ends, list_from}
use Rattle.line_specifiers.specs.Specifier.{item_at}
use Rattle.line_specifiers.specs.declared.specifier.Form.{Form}
use Rattle.line_specifiers.specs.declared.specifier.Form.TheVariants.{Bare, Enclosed}

-- "16: 33rd specifier, itself valid: the text"; "14 before 16"
abbrev pub texts_from : List ℕ → Form → ℕ → Listing
texts_from s form from = list_from SpecifiersMany (item_at s form) max_list true from

-- "or specifiers if the byte is one of `<=>~!`"; none where no such byte stands
unfoldable pub bare_at : List ℕ → ℕ → Listing
bare_at s at = let texts = texts_from s Bare at in cond (is_operator_byte (byte_at s at)) texts (ends at)

-- "The first text starts after `(` and its whitespace, or at the operator"
unfoldable pub specifiers_at : List ℕ → ℕ → Listing
specifiers_at s at =
    let texts = texts_from s (Enclosed at) (skip is_space s (at + 1)) in
    cond (eqb (byte_at s at) (code "(")) texts (bare_at s at)
