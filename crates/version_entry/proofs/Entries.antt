-- The rules by which the entries are proved. Assumes nothing.
use Rattle.cursor.proofs.Checks.{entry}
use Rattle.cursor.proofs.Laws.{scan}

pub ruleset entries = (entry, scan)
