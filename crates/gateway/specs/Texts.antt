-- What the entries for a version, a pattern and a specifier by itself answer.
use Rattle.std.specs.Prelude.{ℕ, List}
use Rattle.refusal.specs.Answer.{Answer}
use Rattle.version.specs.Rules.{is_version, is_pattern, is_specifier}
use Rattle.version_entry.specs.Entry.{text_answer}

-- "a version, pattern or specifier alone 1, 2, then 14 over all of it"
abbrev pub version_answer : List ℕ → Answer (Unit {0})
version_answer s = text_answer (is_version s) s

abbrev pub pattern_answer : List ℕ → Answer (Unit {0})
pattern_answer s = text_answer (is_pattern s) s

abbrev pub specifier_answer : List ℕ → Answer (Unit {0})
specifier_answer s = text_answer (is_specifier s) s
