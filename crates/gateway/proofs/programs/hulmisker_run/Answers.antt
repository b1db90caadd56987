use mathlib.Core.Bool.{Bool, false, cond}
use mathlib.Core.Path.{refl, ap, ◌∙◌}
use Rattle.figures.proofs.Laws.{count_made}
use Rattle.figures.specs.Numbers.{count_figures}
use Rattle.gateway.proofs.Laws.{yes_number}
use Rattle.gateway.specs.Figures.{as_number}
use Rattle.gateway.proofs.programs.hulmisker_run.Goals as goal

pub returns-clause-figures : goal.returns-clause-figures
returns-clause-figures c =
    c.tell.ensures.figures
    ∙ rw (c.from.ensures, c.unwrap_or.ensures, yes_number) (count_made (λ (v : Bool). cond v 1 0) false refl c.run-answer.result)
    ∙ ap (λ a. count_figures (as_number a)) c.run-answer.ensures
