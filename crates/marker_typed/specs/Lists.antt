-- What the typed door hands back: each list in an array, with filler behind it.
use Rattle.arrays.specs.Front.{pad}
use Rattle.marker_kind.specs.declared.kind.Comparison.{Comparison}
use Rattle.marker_kind.specs.declared.kind.Key.TheVariants.{PythonVersion}
use Rattle.marker_kind.specs.declared.kind.Operator.TheVariants.{Equal}
use Rattle.marker_kind.specs.declared.kind.Sort.TheVariants.{Version}
use Rattle.marker.specs.Answer.{counts_of}
use Rattle.marker_steps.specs.Grammar.{warning_of}
use Rattle.marker_steps.specs.Marking.{Marking}
use Rattle.cursor.specs.Limits.{max_comparisons}
use Rattle.program_check.specs.Rules.{max_words}
use Rattle.marker_store.specs.declared.marks.Warning.{Warning}
use Rattle.marker_typed.specs.declared.gather.Lists.{Lists}
use Rattle.refusal.specs.Refusal.{span}

-- the filler
abbrev pub no_comparison : Comparison
no_comparison = record { sort = Version; key = PythonVersion; operator = Equal; literal = span 0 0 }

abbrev pub no_warning : Warning
no_warning = warning_of 0 (span 0 0)

-- what was read, in arrays of these lengths
unfoldable pub lists_of : Marking → Lists
lists_of m = record {
  comparisons = pad max_comparisons no_comparison m.comparisons;
  warnings = pad max_comparisons no_warning m.warnings;
  words = pad max_words 0 m.words;
  counts = counts_of m;
}
