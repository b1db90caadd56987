use Rattle.std.proofs.Common.{◌≡◌, map, drop}
use Rattle.version_parts.specs.Part.{word_len}
use Rattle.version_number.specs.Place.{past}
use Rattle.version_parts.proofs.part.word_end.Given as goal

-- no word before this one stands there
abbrev pub invariant-loop-word : goal.invariant-loop-word
invariant-loop-word l = past (word_len (map (λ w. w.now) (drop l.word-index l.words))) l.text l.at ≡ past (word_len (map (λ w. w.now) l.words)) l.text l.at
