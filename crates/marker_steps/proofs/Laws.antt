-- For the functions of `step`: what each comes to, from the facts that a branch of the code has. Assumes nothing.
use Prim.Native.Nat.{ℕ, ◌<◌, ◌≤◌}
use mathlib.Core.Bool.{Bool}
use mathlib.Core.Path.{◌≡◌, refl}
use native.Mathlib.Omega.{arith}
use lib.ListN.{length}
use Rattle.std.specs.Prelude.{Some, Result, Ok, Err}
use Rattle.marker_verdict.specs.declared.verdict.Verdict.{Verdict}
use Rattle.marker_verdict.specs.declared.verdict.Verdict.TheVariants.{Kept, KeptWarned, Ignored, IgnoredTwice}
use Rattle.marker_steps.specs.Grammar.{kept_in, warned_in, Ahead, Parsed}
use Rattle.marker_steps.specs.inner.Steps.{State, read, raw_in, shows, Inside, state_of, onward, Slack}
use Rattle.marker_steps.specs.declared.part.Part.{Part}
use Rattle.program_check.specs.Rules.{max_words}
use Rattle.marker_store.specs.declared.sheet.Sheet.{Sheet}
use Rattle.cursor.specs.declared.cursor.Cursor.{Cursor}
use Rattle.refusal.specs.declared.fault.Refusal.{Refusal}
use Rattle.refusal.specs.declared.place.Span.{Span}

-- a chain that goes on has read its left side
live_on : (a : Result Part Refusal) (r : Sheet) {next : Cursor} {b : Bool} (goes : ℕ → Ahead) → Some (next, b) ≡ onward a goes → raw_in a r ≡ r
live_on (Ok p) r goes e = refl
live_on (Err why) r goes e = let z : ◌≡◌ {A = ℕ} 0 1 = cc in absurd (omega arith)

module _ (l : Result Part Refusal) (r : Sheet) {next : Cursor} {b : Bool} (goes : ℕ → Ahead) where
  pub inside_of : Some (next, b) ≡ onward l goes → Inside (shows l r).raw.counts → Inside r.counts
  inside_of h room = rw (live_on l r goes h) at room

  pub right_of : (item : ℕ → ℕ → ℕ → Parsed) {right : State} → Some (next, b) ≡ onward l goes →
      right ≡ state_of (item next.at r.counts.kept r.counts.warned) r →
      right ≡ state_of (item next.at (shows l r).raw.counts.kept (shows l r).raw.counts.warned) (shows l r).raw
  right_of item h e = rw (live_on l r goes h) e

-- a part that was read with room for a word behind
pub slack_read : (b : Bool) (r : Sheet) (a : Result Part Refusal) {p : Part} → Slack b (shows a r) → a ≡ Ok p → p.some ≡ b → r.counts.words < max_words
unfolding Slack
slack_read b r a {p} h e f =
    let whole : a ≡ read p.next b = rw (← f) e in
    let room : (raw_in a r).counts.words < max_words = h p.next whole in rw e at room

pub kept_few : (v : Verdict) → length (kept_in v) ≤ 1
kept_few (Kept c) = omega arith
kept_few (KeptWarned c) = omega arith
kept_few (Ignored kind) = omega arith
kept_few (IgnoredTwice kind) = omega arith

pub warned_few : (v : Verdict) (x : Span) → length (warned_in v x) ≤ 2
warned_few (Kept c) x = omega arith
warned_few (KeptWarned c) x = omega arith
warned_few (Ignored kind) x = omega arith
warned_few (IgnoredTwice kind) x = omega arith
