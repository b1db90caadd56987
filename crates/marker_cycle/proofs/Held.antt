-- For the reading of a whole marker: what the arrays of numbers hold after a tree: its lists, and zeros behind them. Assumes nothing.
use mathlib.Core.Path.{◌≡◌, refl, sym, ap, ◌∙◌}
use mathlib.Core.Bool.{Bool, true, false, ◌||◌}
use mathlib.Core.List.{List, [], ◌∷◌, ◌++◌, append_assoc, append-nil}
use Prim.Native.Nat.{ℕ, ◌+◌, ◌*◌, ◌<◌, ◌≤◌}
use native.Mathlib.Omega.{arith}
use lib.ListN.{length, length-append}
use Rattle.marker_verdict.specs.declared.verdict.Verdict.{Verdict}
use Rattle.marker_verdict.specs.declared.verdict.Verdict.TheVariants.{Kept, KeptWarned, Ignored, IgnoredTwice}
use Rattle.marker_kind.specs.declared.kind.Comparison.{Comparison}
use Rattle.marker_cycle.proofs.Emit.{nk, nw, one}
use Rattle.marker_store.proofs.Held.{pad-set, put_comparison_lem, put_warning_lem}
use Rattle.cursor.specs.Limits.{max_comparisons}
use Rattle.program_check.specs.Rules.{max_words}
use Rattle.marker_steps.specs.Grammar.{Tree, compared, both, either, group, kept_in, warned_in, warning_of, kept_of, warned_of}
use Rattle.marker_steps.specs.Marking.{is_kept, some, push, joint, words_from}
use Rattle.marker_steps.specs.inner.Steps.{raw_of, joining, taking, emit}
use Rattle.marker_store.specs.Sheet.{keeping, warning, pushed}
use Rattle.marker_store.specs.declared.sheet.Sheet.{Sheet}
use Rattle.marker_store.specs.declared.marks.Warning.{Warning}
use Rattle.refusal.specs.declared.place.Span.{Span}

-- the arrays that hold three lists
abbrev pub holding : List Comparison → List Warning → List ℕ → Sheet
holding cs ws ps = raw_of (record { comparisons = cs; warnings = ws; words = ps })

-- one more is counted
length-one-more {ℓ} : {A : Type ℓ} (xs : List A) (x : A) → length xs + 1 ≡ length (xs ++ (x ∷ []))
length-one-more xs x = sym (length-append xs (x ∷ []))

pub push_reads : (cs : List Comparison) (ws : List Warning) (ps : List ℕ) (v : ℕ) → length ps < max_words → pushed (holding cs ws ps) v ≡ holding cs ws (ps ++ (v ∷ []))
unfolding pushed raw_of
push_reads cs ws ps v h = rw (pad-set max_words 0 ps v h, length-one-more ps v)

keep_reads : (c : Comparison) (cs : List Comparison) (ws : List Warning) (ps : List ℕ) → length cs < max_comparisons → length ps < max_words →
    keeping c (holding cs ws ps) ≡ holding (cs ++ (c ∷ [])) ws (ps ++ (length cs ∷ []))
unfolding keeping raw_of
keep_reads c cs ws ps h g =
    rw (put_comparison_lem cs c h, pad-set max_words 0 ps (length cs) g, length-one-more cs c, length-one-more ps (length cs))

warn_reads : (w : Warning) (cs : List Comparison) (ws : List Warning) (ps : List ℕ) → length ws < max_comparisons →
    warning w (holding cs ws ps) ≡ holding cs (ws ++ (w ∷ [])) ps
unfolding warning raw_of
warn_reads w cs ws ps h = rw (put_warning_lem ws w h, length-one-more ws w)

take_reads : (v : Verdict) (x : Span) (cs : List Comparison) (ws : List Warning) (ps : List ℕ) →
    length cs + length (kept_in v) ≤ max_comparisons → length ws + length (warned_in v x) ≤ max_comparisons → length ps ≤ 2 * length cs →
    taking v x (holding cs ws ps) ≡ holding (cs ++ kept_in v) (ws ++ warned_in v x) (ps ++ push v (length cs))
take_reads (Kept c) x cs ws ps h j g = rw (append-nil ws) (keep_reads c cs ws ps (omega arith) (omega arith))
take_reads (KeptWarned c) x cs ws ps h j g =
    ap (keeping c) (warn_reads (warning_of 4 x) cs ws ps (omega arith)) ∙ keep_reads c cs (ws ++ (warning_of 4 x ∷ [])) ps (omega arith) (omega arith)
take_reads (Ignored kind) x cs ws ps h j g = rw (append-nil cs, append-nil ps) (warn_reads (warning_of kind x) cs ws ps (omega arith))
take_reads (IgnoredTwice kind) x cs ws ps h j g =
    rw (append-nil cs, append-nil ps)
    (ap (warning (warning_of kind x)) (warn_reads (warning_of kind x) cs ws ps (omega arith))
    ∙ warn_reads (warning_of kind x) cs (ws ++ (warning_of kind x ∷ [])) ps (omega (arith, length-append ws (warning_of kind x ∷ [])))
    ∙ ap (λ (l : List Warning). holding cs l ps) (append_assoc ws (warning_of kind x ∷ []) (warning_of kind x ∷ [])))

join_reads : (x y : Bool) (v : ℕ) (cs : List Comparison) (ws : List Warning) (ps : List ℕ) → length ps + one x + one y ≤ 128 →
    joining x y v (holding cs ws ps) ≡ holding cs ws (ps ++ joint x y v)
join_reads true true v cs ws ps h = push_reads cs ws ps v (omega arith)
join_reads true false v cs ws ps h = rw append-nil
join_reads false y v cs ws ps h = rw append-nil

-- a tree that keeps something has one word less than two for each comparison
words_joint : (x y : Bool) (v m n a b : ℕ) → m + one x ≡ a → n + one y ≡ b → m + (n + length (joint x y v)) + one (x || y) ≡ a + b
words_joint true true v m n a b p q = omega arith
words_joint true false v m n a b p q = omega arith
words_joint false true v m n a b p q = omega arith
words_joint false false v m n a b p q = omega arith

push_count : (v : Verdict) (n : ℕ) → length (push v n) + one (is_kept v) ≡ 2 * length (kept_in v)
push_count (Kept c) n = refl
push_count (KeptWarned c) n = refl
push_count (Ignored kind) n = refl
push_count (IgnoredTwice kind) n = refl

pub words_count : (n : ℕ) (t : Tree) → length (words_from n t) + one (some t) ≡ 2 * nk t
unfolding words_from kept_of some
words_count n (compared v x) = push_count v n
words_count n (both a b) =
    omega (
      arith,
      words_joint (some a) (some b) 64 _ _ _ _ (words_count n a) (words_count (n + nk a) b),
      length-append (kept_of a) (kept_of b),
      length-append (words_from n a) (words_from (n + nk a) b ++ joint (some a) (some b) 64),
      length-append (words_from (n + nk a) b) (joint (some a) (some b) 64),
    )
words_count n (either a b) =
    omega (
      arith,
      words_joint (some a) (some b) 65 _ _ _ _ (words_count n a) (words_count (n + nk a) b),
      length-append (kept_of a) (kept_of b),
      length-append (words_from n a) (words_from (n + nk a) b ++ joint (some a) (some b) 65),
      length-append (words_from (n + nk a) b) (joint (some a) (some b) 65),
    )
words_count n (group a) = words_count n a

-- what reading a tree does to the lists
abbrev Reads : Tree → List Comparison → List Warning → List ℕ → Type 0
Reads t cs ws ps =
    length cs + nk t ≤ max_comparisons → length ws + nw t ≤ max_comparisons → length ps ≤ 2 * length cs →
    emit t (holding cs ws ps) ≡ holding (cs ++ kept_of t) (ws ++ warned_of t) (ps ++ words_from (length cs) t)

-- two sides one after the other, and their joint
two_sides : (a b : Tree) (v : ℕ) →
    ((cs : List Comparison) (ws : List Warning) (ps : List ℕ) → Reads a cs ws ps) →
    ((cs : List Comparison) (ws : List Warning) (ps : List ℕ) → Reads b cs ws ps) →
    (cs : List Comparison) (ws : List Warning) (ps : List ℕ) →
    length cs + length (kept_of a ++ kept_of b) ≤ max_comparisons → length ws + length (warned_of a ++ warned_of b) ≤ max_comparisons → length ps ≤ 2 * length cs →
    joining (some a) (some b) v (emit b (emit a (holding cs ws ps))) ≡
    holding (cs ++ (kept_of a ++ kept_of b)) (ws ++ (warned_of a ++ warned_of b))
    (ps ++ (words_from (length cs) a ++ (words_from (length cs + nk a) b ++ joint (some a) (some b) v)))
two_sides a b v ia ib cs ws ps h j g =
    let la = length-append (kept_of a) (kept_of b) in
    let lw = length-append (warned_of a) (warned_of b) in
    let lc = length-append cs (kept_of a) in
    let lv = length-append ws (warned_of a) in
    let lp = length-append ps (words_from (length cs) a) in
    let wa = words_count (length cs) a in
    let e₁ = ia cs ws ps (omega arith) (omega arith) g in
    let e₂ = ib (cs ++ kept_of a) (ws ++ warned_of a) (ps ++ words_from (length cs) a) (omega arith) (omega arith) (omega arith) in
    rw (
      e₁,
      e₂,
      lc,
      join_reads (some a) (some b) v _ _ ((ps ++ words_from (length cs) a) ++ words_from (length cs + nk a) b)
          (omega (arith, words_count (length cs + nk a) b, length-append (ps ++ words_from (length cs) a) (words_from (length cs + nk a) b))),
    )
    (simp append_assoc)

pub emit_reads : (t : Tree) (cs : List Comparison) (ws : List Warning) (ps : List ℕ) → Reads t cs ws ps
unfolding emit kept_of warned_of words_from
emit_reads (compared v x) cs ws ps h j g = take_reads v x cs ws ps h j g
emit_reads (both a b) cs ws ps h j g = two_sides a b 64 (emit_reads a) (emit_reads b) cs ws ps h j g
emit_reads (either a b) cs ws ps h j g = two_sides a b 65 (emit_reads a) (emit_reads b) cs ws ps h j g
emit_reads (group a) cs ws ps h j g = emit_reads a cs ws ps h j g
