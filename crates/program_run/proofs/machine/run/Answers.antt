use mathlib.Core.Path.{sym, ap, ◌∙◌}
use Rattle.refusal.specs.Refusal.{told}
use Rattle.program_run.proofs.RanAnswers.{run_refused}
use Rattle.program_run.proofs.Passing.{passes_runs}
use Rattle.program_run.proofs.machine.run.Goals as goal

pub returns-in_err-check : goal.returns-in_err-check
returns-in_err-check c = run_refused _ _ _ _ c.check.ensures _ _ c.in_err-check.was c.from_residual.ensures.1

pub obey-requires : goal.obey-requires
obey-requires c = passes_runs _ _ (sym c.check.ensures ∙ ap told c.in_ok-check.was) _
