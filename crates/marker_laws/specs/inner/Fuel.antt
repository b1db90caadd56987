-- The grammar with any bound f on the joints of a chain, for the theorem that the bound never shows.
use Rattle.std.specs.Prelude.{ℕ, zero, suc, ◌+◌, List}
use Rattle.marker_steps.specs.Grammar.{both, either, Parsed, fault, word_ahead, and_word, or_word, chain, item_of, closed, ending}
use Rattle.refusal.specs.Refusal.{refusal}
use Rattle.refusal.specs.declared.fault.Fault.TheVariants.{TooDeep}

abbrev pub and_by : ℕ → List ℕ → (ℕ → ℕ → ℕ → Parsed) → ℕ → ℕ → ℕ → Parsed
and_by f s inner = chain f (word_ahead and_word s) both (item_of s inner)

abbrev pub or_by : ℕ → List ℕ → (ℕ → ℕ → ℕ → Parsed) → ℕ → ℕ → ℕ → Parsed
or_by f s inner = chain f (word_ahead or_word s) either (and_by f s inner)

unfoldable pub group_by : ℕ → List ℕ → ℕ → ℕ → ℕ → ℕ → Parsed
group_by f s zero at k w = fault (refusal TooDeep at 1)
group_by f s (suc d) at k w = closed s at (or_by f s (group_by f s d) (at + 1) k w)

abbrev pub parse_by : ℕ → List ℕ → ℕ → Parsed
parse_by f s at = ending s (or_by f s (group_by f s 16) at 0 0)
