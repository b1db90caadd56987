use mathlib.Core.Path.{◌∙◌}
use mathlib.Core.List.{[], ◌∷◌}
use Rattle.marker.specs.Answer.{entry_answer, counts_of}
use Rattle.marker_steps.specs.Marking.{nothing}
use Rattle.gateway.proofs.Laws.{figures_told, unwraps}
use Rattle.gateway.proofs.requirements.hulmisker_marker.Goals as goal

pub returns-clause-figures : goal.returns-clause-figures
returns-clause-figures c =
    c.tell.ensures.figures
    ∙ figures_told counts_of (λ n. n.kept ∷ n.warned ∷ n.words ∷ []) nothing (entry_answer c.args.line.now) c.read_quick-answer.result c.read_quick-answer.ensures.answer _ (λ y h. h) c.unwrap_or-counts.result (unwraps c.read_quick-answer.result _ _ c.unwrap_or-counts.ensures)
