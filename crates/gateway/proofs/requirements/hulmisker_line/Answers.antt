use mathlib.Core.Path.{ap, ◌∙◌}
use mathlib.Core.List.{List, [], ◌∷◌, ◌++◌}
use Prim.Native.Nat.{ℕ}
use Rattle.std.proofs.Common.{rules}
use Rattle.refusal.specs.Refusal.{told}
use Rattle.figures.specs.Numbers.{place_of}
use Rattle.line.specs.Figures.{figures_of}
use Rattle.line.specs.Line.{line_answer, empty, shown}
use Rattle.gateway.proofs.Laws.{figures_told, url_told, line_rest, line_rest_is, unwraps}
use Rattle.gateway.proofs.requirements.hulmisker_line.Goals as goal

pub returns-clause-figures : goal.returns-clause-figures
returns-clause-figures c =
    let r = c.read_line_into-answer.result in
    let parts = c.unwrap_or-parts.result in
    c.tell.ensures.figures
    ∙ ap (λ (l : List ℕ). place_of (told r) ++ parts.name.start.0 ∷ parts.name.len ∷ l)
    (url_told parts.url _ (λ y h. search rules) c.unwrap_or_default-url.result c.unwrap_or_default-url.ensures c.from.result (search rules)
    (parts.extras ∷ parts.specifiers ∷ parts.marker.kept ∷ parts.marker.warned ∷ parts.marker.words ∷ []))
    ∙ figures_told figures_of line_rest empty (line_answer c.args.line.now) r c.read_line_into-answer.ensures.answer _ (λ y h. h) parts (unwraps r _ _ c.unwrap_or-parts.ensures)
    ∙ ap (λ (l : List ℕ). place_of (line_answer c.args.line.now) ++ l) (line_rest_is (shown (line_answer c.args.line.now)))
