-- What the check's one pass finds.
use Rattle.std.specs.Prelude.{ℕ, cond, List, ltb, length, Option, Some, None}
use Rattle.refusal.specs.Answer.{Answer, good, refused}
use Rattle.program_check.specs.Check.{fault_at}
use Rattle.program_check.specs.Rules.{sound, after, height}
use Rattle.program_check.specs.declared.word.Word.{Word}

-- how many values stand after a word, where h stood before it; none where it is at fault
abbrev pub next_height : Word → ℕ → ℕ → ℕ → Option ℕ
next_height w at count h = cond (sound count at h w) (Some (after h w)) None

-- how many values stand at the end, or 30 at the first word at fault
abbrev pub height_at_end : List ℕ → ℕ → Answer ℕ
height_at_end s count = cond (ltb (fault_at s count) (length s)) (refused 30 (fault_at s count) 1) (good (height 0 s))
