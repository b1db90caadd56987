use mathlib.Core.Path.{ap, ◌∙◌}
use Rattle.figures.proofs.Laws.{count_told}
use Rattle.figures.specs.Numbers.{count_figures}
use Rattle.gateway.proofs.requirements.hulmisker_extras.Goals as goal

pub returns-clause-figures : goal.returns-clause-figures
returns-clause-figures c =
    c.tell.ensures.figures ∙ rw c.unwrap_or.ensures (count_told c.extras_into-answer.result) ∙ ap count_figures c.extras_into-answer.ensures.answer
