-- The typed door: each list in its array with filler behind it.
use Rattle.std.specs.Prelude.{List, length}
use Rattle.refusal.specs.declared.place.Span.{Span}
use Rattle.spans.specs.Flat.{padded}
use Rattle.line.specs.Line.{Parts}
use Rattle.line_typed.specs.declared.door.Requirement.{Requirement}
use Rattle.line_typed.specs.declared.door.SpanList.{SpanList}
use Rattle.marker_typed.specs.Lists.{lists_of}

abbrev pub list_of : List Span → SpanList
list_of l = record { spans = padded l; count = length l }

abbrev pub filled : Parts → Requirement
filled p = record {
  name = p.name;
  extras = list_of p.extras;
  specifiers = list_of p.specifiers;
  url = p.url;
  marker = lists_of p.marking;
}
