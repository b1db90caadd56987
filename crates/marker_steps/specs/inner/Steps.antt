-- What the inner functions do to the sheet of numbers: a tree's effect on it, piece by piece. What the doors promise does not speak of these.
use Prim.Native.Char.{code}
use Rattle.std.specs.Prelude.{ℕ, ◌+◌, ◌-◌, ◌*◌, ◌≤◌, ◌<◌, Bool, true, false, cond, ◌||◌, List, ◌≡◌, ltb, eqb, length, Option, Some, None, Result, Ok, Err}
use Rattle.marker_verdict.specs.declared.verdict.Verdict.{Verdict}
use Rattle.marker_verdict.specs.declared.verdict.Verdict.TheVariants.{Kept, KeptWarned, Ignored, IgnoredTwice}
use Rattle.arrays.specs.Front.{pad}
use Rattle.marker_store.specs.Room.{comparisons_room, warnings_room}
use Rattle.marker_store.specs.Sheet.{keeping, warning, pushed}
use Rattle.cursor.specs.Limits.{max_comparisons}
use Rattle.program_check.specs.Rules.{max_words}
use Rattle.marker_store.specs.declared.marks.Counts.{Counts}
use Rattle.marker_store.specs.declared.sheet.Sheet.{Sheet}
use Rattle.marker_steps.specs.Grammar.{Tree, compared, both, either, group, Parsed, got, fault, kept_in, warned_in, warning_of, Ahead, on, off}
use Rattle.marker_steps.specs.Marking.{some, Marking, marking, nothing, comparisons_as, warnings_as}
use Rattle.marker_steps.specs.declared.part.Part.{Part}
use Rattle.text.specs.Class.{is_space}
use Rattle.cursor.specs.Cursor.{cursor}
use Rattle.refusal.specs.Refusal.{refusal}
use Rattle.text.specs.Scan.{skip, byte_at}
use Rattle.cursor.specs.declared.cursor.Cursor.{Cursor}
use Rattle.refusal.specs.declared.fault.Fault.TheVariants.{ExpectedFoundEnd, ExpectedFoundOther, MarkerGoesOn}
use Rattle.refusal.specs.declared.fault.Refusal.{Refusal}
use Rattle.refusal.specs.declared.place.Span.{Span}

-- these lists in a sheet's arrays, and zeros behind
unfoldable pub raw_of : Marking → Sheet
raw_of m = record {
  comparisons = pad comparisons_room 0 (comparisons_as m);
  warnings = pad warnings_room 0 (warnings_as m);
  words = pad max_words 0 m.words;
  counts = record { kept = length m.comparisons; warned = length m.warnings; words = length m.words };
}

-- a part that ends at a place, and whether anything of it was kept
abbrev pub read : Cursor → Bool → Result Part Refusal
read c b = Ok (record { next = c; some = b })

-- how far a part was read, and the sheet then
pub record State : Type 0 where
  pub part : Result Part Refusal
  pub raw : Sheet

-- after a refusal the sheet says nothing
abbrev pub raw_in : Result Part Refusal → Sheet → Sheet
raw_in (Ok p) r = r
raw_in (Err why) r = raw_of nothing

abbrev pub shows : Result Part Refusal → Sheet → State
shows a r = record { part = a; raw = raw_in a r }

-- the counts are within the arrays, with two words at most for each comparison
pub record Inside (n : Counts) : Type 0 where
  pub kept_fits : n.kept ≤ max_comparisons
  pub warned_fits : n.warned ≤ max_comparisons
  pub count_fits : n.words ≤ 2 * n.kept

-- there is room for what a comparison keeps and warns of
abbrev pub Takes : Verdict → Span → Counts → Type 0
Takes v x n = (n.warned + length (warned_in v x) ≤ max_comparisons) × (n.kept + length (kept_in v) ≤ max_comparisons)

abbrev pub joining : Bool → Bool → ℕ → Sheet → Sheet
joining true true v r = pushed r v
joining true false v r = r
joining false d v r = r

-- a comparison goes in: its warnings first
abbrev pub taking : Verdict → Span → Sheet → Sheet
taking (Kept c) x r = keeping c r
taking (KeptWarned c) x r = keeping c (warning (warning_of 4 x) r)
taking (Ignored kind) x r = warning (warning_of kind x) r
taking (IgnoredTwice kind) x r = warning (warning_of kind x) (warning (warning_of kind x) r)

-- the sheet with a tree read after it
unfoldable pub emit : Tree → Sheet → Sheet
emit (compared v x) r = taking v x r
emit (both a b) r = joining (some a) (some b) 64 (emit b (emit a r))
emit (either a b) r = joining (some a) (some b) 65 (emit b (emit a r))
emit (group a) r = emit a r

abbrev pub stopped : Refusal → State
stopped why = record { part = Err why; raw = raw_of nothing }

abbrev pub read_to : Cursor → Bool → Sheet → State
read_to c b r = record { part = read c b; raw = r }

-- what an inner function comes to that reads p after r
unfoldable pub state_of : Parsed → Sheet → State
state_of (got t e) r = read_to (cursor e) (some t) (emit t r)
state_of (fault why) r = stopped why

-- what it comes to that reads by `item`, given how many comparisons and warnings there are before it
abbrev pub read_after : (ℕ → ℕ → Parsed) → Sheet → State
read_after item r = state_of (item r.counts.kept r.counts.warned) r

-- what the core comes to that reads p as the whole marker
unfoldable pub whole_of : Parsed → State
whole_of (got t e) = read_to (cursor e) (some t) (raw_of (marking t))
whole_of (fault why) = stopped why

-- whether a chain goes on past its left side: from where, and whether that side kept anything
abbrev pub onward_at : Ahead → Bool → Option (Cursor × Bool)
onward_at (on d) b = Some (cursor d, b)
onward_at off b = None

abbrev pub onward : Result Part Refusal → (ℕ → Ahead) → Option (Cursor × Bool)
onward (Ok p) goes = onward_at (goes p.next.at) p.some
onward (Err why) goes = None

-- the right side, joined to a left side that kept something or not
abbrev pub joined_out : Result Part Refusal → Bool → State → ℕ → State
joined_out (Ok p) b a v = read_to p.next (b || p.some) (joining b p.some v a.raw)
joined_out (Err why) b a v = a

unfoldable pub joined : Bool → State → ℕ → State
joined b a v = joined_out a.part b a v

-- a part of this kind leaves room for a word
unfoldable pub Slack : Bool → State → Type 0
Slack b a = (c : Cursor) → a.part ≡ read c b → a.raw.counts.words < max_words

-- a group, from its inside
abbrev pub closed_at : List ℕ → ℕ → ℕ → Bool → Sheet → State
closed_at s opened e b r =
    cond (eqb (byte_at s e) (code ")")) (read_to (cursor (e + 1)) b r)
    (cond (ltb e (length s)) (stopped (refusal ExpectedFoundOther e 1))
    (stopped (refusal ExpectedFoundEnd opened 1)))

abbrev pub closed_out : Result Part Refusal → List ℕ → ℕ → State → State
closed_out (Ok p) s opened a = closed_at s opened (skip is_space s p.next.at) p.some a.raw
closed_out (Err why) s opened a = a

unfoldable pub closed_by : List ℕ → ℕ → State → State
closed_by s opened a = closed_out a.part s opened a

-- the whole marker, from its chain
abbrev pub finished_at : List ℕ → Cursor → Bool → ℕ → State → State
finished_at s c b here a =
    cond (ltb here (length s)) (stopped (refusal MarkerGoesOn here (length s - here - 1)))
    (cond b a (read_to c b (pushed a.raw 66)))

abbrev pub finished_out : Result Part Refusal → List ℕ → State → State
finished_out (Ok p) s a = finished_at s p.next p.some (skip is_space s p.next.at) a
finished_out (Err why) s a = a

unfoldable pub finished : List ℕ → State → State
finished s a = finished_out a.part s a
