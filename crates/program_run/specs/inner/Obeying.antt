-- What the runner's parts ask: that a word finds what it needs.
use Rattle.std.specs.Prelude.{⊤}
use Rattle.program_run.specs.Machine.{State, stands, lacks_value, lacks_slot, lacks_meaning}

-- nothing is lacking
abbrev pub IsStanding : {A : Type 0} → State A → Type 0
IsStanding (stands st) = ⊤
IsStanding lacks_value = ⊥
IsStanding lacks_slot = ⊥
IsStanding lacks_meaning = ⊥
