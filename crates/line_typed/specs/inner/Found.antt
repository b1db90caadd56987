-- What the door makes of the spans that it has found: the first of an array.
use Rattle.std.specs.Prelude.{ℕ, List}
use Rattle.spans.specs.Flat.{loaded, padded}
use Rattle.line_typed.specs.declared.door.SpanList.{SpanList}

abbrev pub first_of : ℕ → List ℕ → SpanList
first_of n list = record { spans = padded (loaded n list); count = n }
