use Rattle.refusal.specs.Refusal.{given}
use Rattle.version_entry.proofs.Entries.{entries}
use Rattle.version_entry.proofs.entry.judged.Goals as goal

pub returns : goal.returns
unfolding given
returns g c p same = search (same, entries)
