-- What an accepted line's program is worth, with a marker or without: it passes the check, and says what the line says. Assumes nothing.
use mathlib.Core.Bool.{true}
use mathlib.Core.List.{List}
use mathlib.Core.Path.{◌≡◌}
use native.Mathlib.Omega.{arith}
use Prim.Native.Nat.{ℕ}
use lib.ListN.{length}
use Rattle.line.specs.Line.{Parts, unmarked, line_answer}
use Rattle.line_laws.proofs.Accepted.{accepted}
use Rattle.line_laws.specs.Value.{line_tree, line_value}
use Rattle.marker_laws.proofs.Meaning.{answer_passes, answer_says}
use Rattle.marker_laws.specs.Value.{Left}
use Rattle.marker_steps.specs.Grammar.{Tree}
use Rattle.marker_steps.specs.Marking.{Marking}
use Rattle.program_laws.proofs.Meaning.{within_passes}
use Rattle.program_run.proofs.RanAnswers.{within_ran}
use Rattle.program_check.specs.Check.{checked_program}
use Rattle.program_run.specs.Run.{bit, ran}
use Rattle.program_check.specs.Tree.{Within, Below, slots, postfix, fold, leaf_yes}
use Rattle.refusal.specs.Answer.{Answer, good, passes, on_good}

-- "A line without marker has the program 66, count 0.": the tree of one leaf, yes
yes_within : Within leaf_yes 0
unfolding Below slots postfix
yes_within = record { few = omega arith; below = tt; short = omega arith; small = omega arith }

unmarked_passes : checked_program unmarked.words 0 ≡ passes
unfolding postfix
unmarked_passes = within_passes leaf_yes 0 yes_within

unmarked_says : (assignment : ℕ) → ran unmarked.words 0 assignment ≡ good true
unfolding postfix fold
unmarked_says assignment = within_ran leaf_yes 0 assignment yes_within

-- an accepted line's program passes for its count of kept comparisons
pub line_passes : (s : List ℕ) (p : Parts) → line_answer s ≡ good p → checked_program p.marking.words (length p.marking.comparisons) ≡ passes
line_passes s =
    accepted s (λ (m : Marking) (t : Answer (Left Tree)). checked_program m.words (length m.comparisons) ≡ passes)
    unmarked_passes
    (λ from m t e read is. answer_passes s from m read)

-- and run under any assignment it answers what the grammar's tree of the line's marker says, with ignored comparisons and emptied groups dropped, and yes
-- without a marker: comparison k is bit k
pub line_says : (s : List ℕ) (p : Parts) → line_answer s ≡ good p → (assignment : ℕ) → ran p.marking.words (length p.marking.comparisons) assignment ≡ on_good (line_value (bit assignment)) (line_tree s)
line_says s =
    accepted s (λ (m : Marking) (t : Answer (Left Tree)). (assignment : ℕ) → ran m.words (length m.comparisons) assignment ≡ on_good (line_value (bit assignment)) t)
    unmarked_says
    (λ from m t e read is assignment. answer_says s from m read t e is assignment)
