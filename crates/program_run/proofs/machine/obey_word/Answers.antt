use Rattle.std.proofs.Common.{rules, arith}
use Rattle.program_run.proofs.Runs.{room_left}
use Rattle.program_run.proofs.machine.obey_word.Goals as goal

pub push-requires-in-And : goal.push-requires-in-And
push-requires-in-And c = let n = room_left _ _ _ _ c.take_two-older.ensures c.requires.few in (search rules, omega arith)

pub push-requires-in-Or : goal.push-requires-in-Or
push-requires-in-Or c = let n = room_left _ _ _ _ c.take_two-older-in-Or.ensures c.requires.few in (search rules, omega arith)
