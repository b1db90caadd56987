use native.Mathlib.Omega.{arith}
use Rattle.program_run.proofs.Runs.{word_finds, word_turn, run_end}
use Rattle.program_run.proofs.machine.obey.Goals as goal

pub obey_word-requires-clause-finds : goal.obey_word-requires-clause-finds
obey_word-requires-clause-finds c = word_finds _ _ _ _ _ c.loop-byte.invariant _ c.loop-byte-test.true c.from.ensures

pub loop-byte-preserved : goal.loop-byte-preserved
loop-byte-preserved c = word_turn _ _ _ _ _ c.loop-byte.invariant _ c.loop-byte-test.true c.from.ensures _ c.obey_word.ensures.leaves c.obey_word.ensures.few

pub bounds-deref-0 : goal.bounds-deref-0
bounds-deref-0 c = rw (c.deref.ensures.0, run_end _ _ _ _ _ c.loop-byte.invariant c.loop-byte-test.false) (omega arith)

pub returns : goal.returns
returns c = rw (c.deref.ensures.0, run_end _ _ _ _ _ c.loop-byte.invariant c.loop-byte-test.false)
