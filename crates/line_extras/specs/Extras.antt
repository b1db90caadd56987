-- The extras that stand at a place of a line.
use Rattle.std.specs.Prelude.{ℕ, ◌+◌, true, cond, List, eqb}
use Prim.Native.Char.{code}
use Rattle.text.specs.Class.{is_space}
use Rattle.text.specs.Scan.{skip, byte_at}
use Rattle.refusal.specs.declared.fault.Fault.TheVariants.{ExtrasMany}
use Rattle.cursor.specs.Limits.{max_list}
use Rattle.spans.specs.Listing.{Listing, ends, list_from}
use Rattle.line_extras.specs.Extra.{item_at}

-- "12: 33rd extra: the extra"; "Repeats stay, in order.": the extras from a place on, inside the bracket
abbrev pub extras_from : List ℕ → ℕ → ℕ → Listing
extras_from s bracket from = list_from ExtrasMany (item_at s bracket) max_list true from

-- "Extras: `[`, whitespace, then `]` or extras .."; "without a leading `[` it answers no extras"
unfoldable pub extras_at : List ℕ → ℕ → Listing
extras_at s at =
    let inside = extras_from s at (skip is_space s (at + 1)) in
    cond (eqb (byte_at s at) (code "[")) inside (ends at)
