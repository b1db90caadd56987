-- What was read of a marker so far, in numbers, and what one more makes of it.
use Rattle.std.specs.Prelude.{ℕ, ◌+◌, set, replicate}
use Rattle.program_check.specs.Rules.{max_words}
use Rattle.marker_kind.specs.declared.kind.Comparison.{Comparison}
use Rattle.marker_store.specs.Numbers.{put_comparison, put_warning, no_counts}
use Rattle.marker_store.specs.Room.{comparisons_room, warnings_room}
use Rattle.marker_store.specs.declared.marks.Warning.{Warning}
use Rattle.marker_store.specs.declared.sheet.Sheet.{Sheet}

-- nothing yet: zeros
unfoldable pub blank : Sheet
blank = record {
  comparisons = replicate comparisons_room 0;
  warnings = replicate warnings_room 0;
  words = replicate max_words 0;
  counts = no_counts;
}

-- a word of the program
unfoldable pub pushed : Sheet → ℕ → Sheet
pushed r v = record {
  comparisons = r.comparisons;
  warnings = r.warnings;
  words = set r.words r.counts.words v;
  counts = record { kept = r.counts.kept; warned = r.counts.warned; words = r.counts.words + 1 };
}

-- a comparison that is kept, and the word that pushes it: its number
unfoldable pub keeping : Comparison → Sheet → Sheet
keeping c r = record {
  comparisons = put_comparison r.comparisons r.counts.kept c;
  warnings = r.warnings;
  words = set r.words r.counts.words r.counts.kept;
  counts = record { kept = r.counts.kept + 1; warned = r.counts.warned; words = r.counts.words + 1 };
}

unfoldable pub warning : Warning → Sheet → Sheet
warning w r = record {
  comparisons = r.comparisons;
  warnings = put_warning r.warnings r.counts.warned w;
  words = r.words;
  counts = record { kept = r.counts.kept; warned = r.counts.warned + 1; words = r.counts.words };
}
