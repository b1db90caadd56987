-- The figures of a line's parts put together with those of its marker.
use Rattle.line_head.specs.Head.{text_count}
use Rattle.line_head.specs.declared.part.Head.{Head}
use Rattle.line.specs.Line.{url_of}
use Rattle.line.specs.declared.figures.Figures.{Figures}
use Rattle.marker_store.specs.declared.marks.Counts.{Counts}

-- the figures of these parts and of a marker that counts so much
abbrev pub head_figures : Head → Counts → Figures
head_figures h marker = record { name = h.name; extras = h.extras; specifiers = text_count h.wanted; url = url_of h.wanted; marker = marker }
