-- For `read_from` and the doors above: what the code says of the whole marker is what the specification says. Assumes nothing.
use Rattle.std.proofs.lemmas.Bool.{or_parts}
use mathlib.Core.Path.{◌≡◌, refl, ap, ◌∙◌}
use mathlib.Core.Bool.{Bool, true, false, cond, ◌||◌}
use mathlib.Core.List.{List, [], ◌∷◌}
use Prim.Native.Nat.{ℕ, ◌+◌, ◌-◌, ◌<◌, ◌≤◌}
use native.Mathlib.Omega.{arith}
use lib.Dec.{ltb}
use lib.ListN.{length}
use Rattle.marker_verdict.specs.declared.verdict.Verdict.{Verdict}
use Rattle.marker_verdict.specs.declared.verdict.Verdict.TheVariants.{Kept, KeptWarned, Ignored, IgnoredTwice}
use Rattle.marker_cycle.proofs.Chain.{Sane, same_some}
use Rattle.marker_cycle.proofs.Emit.{nk, one, emit_count}
use Rattle.marker_cycle.proofs.Held.{emit_reads, push_reads, words_count}
use Rattle.marker_cycle.proofs.Items.{by_test, or_sane, group_sane}
use Rattle.marker_store.specs.Numbers.{all_numbers, no_counts}
use Rattle.cursor.specs.Limits.{max_comparisons}
use Rattle.program_check.specs.Rules.{max_words}
use Rattle.marker_steps.specs.Grammar.{Tree, compared, both, either, group, kept_of, warned_of, Parsed, got, fault, or_of, group_at, ending, parse_from}
use Rattle.marker_steps.specs.Marking.{is_kept, some, push, words_from, program, nothing}
use Rattle.marker_steps.specs.inner.Steps.{raw_of, State, read, shows, emit, stopped, read_to, state_of, whole_of, Slack, finished}
use Rattle.marker_steps.specs.declared.part.Part.{Part}
use Rattle.marker_store.specs.Sheet.{blank, pushed}
use Rattle.marker_store.specs.declared.marks.Counts.{Counts}
use Rattle.marker_store.specs.declared.sheet.Sheet.{Sheet}
use Rattle.std.specs.Prelude.{Ok, Err}
use Rattle.text.specs.Class.{is_space}
use Rattle.cursor.specs.Cursor.{cursor}
use Rattle.refusal.specs.Refusal.{refusal}
use Rattle.text.specs.Scan.{skip}
use Rattle.refusal.specs.declared.fault.Fault.TheVariants.{MarkerGoesOn}

-- a tree of which nothing is kept has no comparisons and no words
none_push : (n : ℕ) (v : Verdict) → is_kept v ≡ false → push v n ≡ []
none_push n (Kept c) e = let z : ◌≡◌ {A = ℕ} 0 1 = cc in absurd (omega arith)
none_push n (KeptWarned c) e = let z : ◌≡◌ {A = ℕ} 0 1 = cc in absurd (omega arith)
none_push n (Ignored kind) e = refl
none_push n (IgnoredTwice kind) e = refl

pub none_words : (n : ℕ) (t : Tree) → some t ≡ false → words_from n t ≡ []
unfolding some words_from
none_words n (compared v x) e = none_push n v e
none_words n (both a b) e =
    rw (none_words n a (or_parts (some a) (some b) e).0, none_words (n + nk a) b (or_parts (some a) (some b) e).1, (or_parts (some a) (some b) e).0)
none_words n (either a b) e =
    rw (none_words n a (or_parts (some a) (some b) e).0, none_words (n + nk a) b (or_parts (some a) (some b) e).1, (or_parts (some a) (some b) e).0)
none_words n (group a) e = none_words n a e

-- the chain that a marker is, before its end is looked at
abbrev pub line_of : List ℕ → ℕ → Parsed
line_of s at = or_of s (group_at s 16) at 0 0

pub line_sane : (s : List ℕ) (at : ℕ) → Sane at 0 0 (line_of s at)
line_sane s at = or_sane s (group_at s 16) (group_sane s 16) at 0 0 (omega arith) (omega arith)

none_kept : (t : Tree) → some t ≡ false → nk t ≡ 0
none_kept t e = omega (arith, words_count 0 t, ap length (none_words 0 t e), ap one e)

pub line_slack : (s : List ℕ) (at : ℕ) (a : State) → a ≡ state_of (line_of s at) (raw_of nothing) → Slack false a
unfolding state_of Slack raw_of
line_slack s at a e c ec = go (line_of s at) e
  where
    go : (p : Parsed) → a ≡ state_of p (raw_of nothing) → a.raw.counts.words < max_words
    go (got t d) q =
        let z : read (cursor d) (some t) ≡ read c false = rw q at ec in
        rw q (omega (arith, emit_count t (raw_of nothing), none_kept t (same_some z)))
    go (fault why) q =
        let z : Err why ≡ read c false = rw q at ec in
        let y : ◌≡◌ {A = ℕ} 0 1 = cc in absurd (omega arith)

-- the reading from nothing
pub line_state : (s : List ℕ) (at : ℕ) {r : Sheet} {a : State} → r ≡ raw_of nothing → a ≡ state_of (or_of s (group_at s 16) at r.counts.kept r.counts.warned) r → a ≡ state_of (line_of s at) (raw_of nothing)
unfolding raw_of
line_state s at er ea = rw er at ea

ended : (s : List ℕ) (at : ℕ) (p : Parsed) → Sane at 0 0 p → finished s (state_of p (raw_of nothing)) ≡ whole_of (ending s p)
unfolding finished state_of whole_of ending program
ended s at (got t e) sn = test (ltb (skip is_space s e) (length s))
  where
    d : ℕ
    d = skip is_space s e

    reads : emit t (raw_of nothing) ≡ raw_of (record { comparisons = kept_of t; warnings = warned_of t; words = words_from 0 t })
    reads = emit_reads t [] [] [] sn.1 sn.2 (omega arith)

    last : (b : Bool) → some t ≡ b →
        cond b (state_of (got t e) (raw_of nothing)) (read_to (cursor e) b (pushed (emit t (raw_of nothing)) 66)) ≡ whole_of (got t e)
    last true h = rw (reads, h)
    last false h = rw (reads, none_words 0 t h, h, push_reads (kept_of t) (warned_of t) [] 66 (omega arith))

    test : (b : Bool) →
        cond b (stopped (refusal MarkerGoesOn d (length s - d - 1)))
        (cond (some t) (state_of (got t e) (raw_of nothing)) (read_to (cursor e) (some t) (pushed (emit t (raw_of nothing)) 66)))
        ≡ whole_of (cond b (fault (refusal MarkerGoesOn d (length s - d - 1))) (got t e))
    test true = refl
    test false = last (some t) refl
ended s at (fault why) sn = refl

-- what the code has of the marker: empty arrays, the chain's end and its finish
pub whole_state : (s : List ℕ) (at : ℕ) {r : Sheet} {a b : State} → r ≡ raw_of nothing →
    a ≡ state_of (or_of s (group_at s 16) at r.counts.kept r.counts.warned) r → b ≡ finished s a → b ≡ whole_of (parse_from s at)
unfolding parse_from
whole_state s at er ea eb = eb ∙ ap (finished s) (line_state s at er ea) ∙ ended s at (line_of s at) (line_sane s at)

-- arrays of zeros hold nothing
pub blank_nothing : (r : Sheet) → r ≡ blank → record r { counts = no_counts } ≡ raw_of nothing
unfolding blank raw_of all_numbers
blank_nothing r e = rw e

pub parse_sane : (s : List ℕ) (at : ℕ) → Sane at 0 0 (parse_from s at)
unfolding parse_from ending
parse_sane s at = go (line_of s at) (line_sane s at)
  where
    go : (p : Parsed) → Sane at 0 0 p → Sane at 0 0 (ending s p)
    go (got t e) sn = by_test (Sane at 0 0) (ltb (skip is_space s e) (length s)) _ _ (λ _. tt) (λ _. sn)
    go (fault why) sn = tt

-- a program has at most 127 words
pub program_short : (t : Tree) → nk t ≤ max_comparisons → length (program t) ≤ max_words
unfolding program
program_short t h = go (some t) refl
  where
    go : (b : Bool) → some t ≡ b → length (cond b (words_from 0 t) (66 ∷ [])) ≤ max_words
    go true e = omega (arith, words_count 0 t, ap one e)
    go false e = omega arith

-- so do they with counts of 0
pub counts_nothing : (r : Sheet) {n : Counts} → (n.kept ≡ 0) × ((n.warned ≡ 0) × (n.words ≡ 0)) → record r { counts = no_counts } ≡ raw_of nothing → record r { counts = n } ≡ raw_of nothing
counts_nothing r {n} z e = (λ i. record r { counts = record { kept = z.0 i; warned = z.1.0 i; words = z.1.1 i } }) ∙ e

-- a marker that was read has counts within the arrays
pub fits_of : (s : List ℕ) (at : ℕ) (r : Sheet) (p : Part) → shows (Ok p) r ≡ whole_of (parse_from s at) → (r.counts.kept ≤ max_comparisons) × (r.counts.warned ≤ max_comparisons)
unfolding whole_of raw_of
fits_of s at r p h = go (parse_from s at) (parse_sane s at) h
  where
    go : (q : Parsed) → Sane at 0 0 q → shows (Ok p) r ≡ whole_of q → (r.counts.kept ≤ max_comparisons) × (r.counts.warned ≤ max_comparisons)
    go (got t d) sn g =
        let k = ap (λ (z : State). z.raw.counts.kept) g in
        let w = ap (λ (z : State). z.raw.counts.warned) g in
        (omega (arith, sn.1), omega (arith, sn.2))
    go (fault why) sn g =
        let z : Ok p ≡ Err why = ap (λ (z : State). z.part) g in
        let y : ◌≡◌ {A = ℕ} 0 1 = cc in absurd (omega arith)
