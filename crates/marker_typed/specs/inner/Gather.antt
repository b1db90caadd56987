-- How the typed door reads a sheet of numbers.
use Rattle.std.specs.Prelude.{map}
use Rattle.std.specs.List.{range_with_len}
use Rattle.arrays.specs.Front.{pad}
use Rattle.marker_store.specs.Numbers.{comparison_in, warning_in}
use Rattle.cursor.specs.Limits.{max_comparisons}
use Rattle.marker_store.specs.declared.sheet.Sheet.{Sheet}
use Rattle.marker_typed.specs.Lists.{no_comparison, no_warning}
use Rattle.marker_typed.specs.declared.gather.Lists.{Lists}

unfoldable pub gathered : Sheet → Lists
gathered r = record {
  comparisons = pad max_comparisons no_comparison (map (comparison_in r.comparisons) (range_with_len 0 r.counts.kept));
  warnings = pad max_comparisons no_warning (map (warning_in r.warnings) (range_with_len 0 r.counts.warned));
  words = r.words;
  counts = r.counts;
}
