-- What an accepted marker's program is worth: it passes the check, and says what its grammar tree says with ignored comparisons and emptied groups dropped.
-- Assumes nothing.
use Prim.Native.Char.{code}
use Prim.Native.Nat.{ℕ, zero, suc, ◌+◌, ◌*◌, ◌≤◌, max}
use mathlib.Core.Bool.{Bool, true, false, cond, ◌||◌}
use mathlib.Core.List.{List, [], ◌∷◌, ◌++◌, append-nil}
use mathlib.Core.Path.{◌≡◌, refl, ap, ap₂, ◌∙◌}
use native.Mathlib.Omega.{arith}
use lib.Dec.{ltb, eqb}
use lib.ListN.{length, length-append}
use Rattle.marker_verdict.specs.Found.{found_at}
use Rattle.marker_verdict.specs.declared.found.Found.{Found}
use Rattle.marker_verdict.specs.declared.verdict.Verdict.{Verdict}
use Rattle.marker_verdict.specs.declared.verdict.Verdict.TheVariants.{Kept, KeptWarned, Ignored, IgnoredTwice}
use Rattle.marker.specs.Answer.{answered, marker_answer, entry_answer}
use Rattle.marker_laws.specs.Value.{Left, none, left, meet, left_in, left_of, or_yes, made_of, value_of, growing, tree_for}
use Rattle.marker_cycle.proofs.Chain.{Sane, chain_ind}
use Rattle.marker_cycle.proofs.Emit.{nk, nw}
use Rattle.marker_cycle.proofs.Items.{by_test, item_ind}
use Rattle.marker_cycle.proofs.Whole.{program_short, parse_sane}
use Rattle.cursor.specs.Limits.{max_comparisons}
use Rattle.marker_steps.specs.Grammar.{Tree, compared, both, either, group, kept_in, warned_in, kept_of, Parsed, got, fault, settled, settle, Ahead, on, word_ahead, and_word, or_word, chain, item_of, and_of, or_of, closed, group_at, ending, parse_from}
use Rattle.marker_steps.specs.Marking.{is_kept, some, push, joint, words_from, program, Marking, marking}
use Rattle.program_laws.proofs.Meaning.{within_passes}
use Rattle.program_run.proofs.RanAnswers.{within_ran}
use Rattle.program_check.specs.Check.{checked_program}
use Rattle.program_run.specs.Run.{bit, ran}
use Rattle.program_check.specs.Tree as P
use Rattle.program_check.specs.Tree.{Sense, fold, saying, postfix, Below, slots, Within, leaf, and, or}
use Rattle.refusal.specs.Answer.{good, refused, passes}
use Rattle.text.specs.Class.{is_space, is_ascii}
use Rattle.refusal.specs.Refusal.{given}
use Rattle.refusal.specs.declared.fault.Refusal.{Refusal}
use Rattle.std.specs.Prelude.{Result, Ok, Err}
use Rattle.text.specs.Scan.{run, skip, byte_at}

-- whether anything is left, and its words
abbrev is_left : {A : Type 0} → Left A → Bool
is_left none = false
is_left (left x) = true

abbrev words_of : Left P.Tree → List ℕ
words_of none = []
words_of (left u) = postfix u

meet_some : {A : Type 0} (f : A → A → A) (x y : Left A) → is_left (meet f x y) ≡ is_left x || is_left y
meet_some f none y = refl
meet_some f (left x) none = refl
meet_some f (left x) (left y) = refl

module _ {A : Type 0} (m : Sense A) where
  in_some : (n : ℕ) (v : Verdict) → is_left (left_in m n v) ≡ is_kept v
  in_some n (Kept c) = refl
  in_some n (KeptWarned c) = refl
  in_some n (Ignored kind) = refl
  in_some n (IgnoredTwice kind) = refl

  -- something is left exactly where something is kept
  left_some : (n : ℕ) (t : Tree) → is_left (left_of m n t) ≡ some t
  unfolding left_of some
  left_some n (compared v x) = in_some n v
  left_some n (both a b) = meet_some m.both (left_of m n a) (left_of m (n + nk a) b) ∙ rw (left_some n a, left_some (n + nk a) b)
  left_some n (either a b) = meet_some m.either (left_of m n a) (left_of m (n + nk a) b) ∙ rw (left_some n a, left_some (n + nk a) b)
  left_some n (group a) = left_some n a

  -- what is made of the program's tree is what is made of the grammar's
  abbrev folded : Left P.Tree → Left A
  folded none = none
  folded (left u) = left (fold m u)

  meet_and : (x y : Left P.Tree) → folded (meet and x y) ≡ meet m.both (folded x) (folded y)
  unfolding fold
  meet_and none y = refl
  meet_and (left x) none = refl
  meet_and (left x) (left y) = refl

  meet_or : (x y : Left P.Tree) → folded (meet or x y) ≡ meet m.either (folded x) (folded y)
  unfolding fold
  meet_or none y = refl
  meet_or (left x) none = refl
  meet_or (left x) (left y) = refl

  in_folded : (n : ℕ) (v : Verdict) → folded (left_in growing n v) ≡ left_in m n v
  unfolding fold
  in_folded n (Kept c) = refl
  in_folded n (KeptWarned c) = refl
  in_folded n (Ignored kind) = refl
  in_folded n (IgnoredTwice kind) = refl

  left_folded : (n : ℕ) (t : Tree) → folded (left_of growing n t) ≡ left_of m n t
  unfolding left_of
  left_folded n (compared v x) = in_folded n v
  left_folded n (both a b) = meet_and (left_of growing n a) (left_of growing (n + nk a) b) ∙ ap₂ (meet m.both) (left_folded n a) (left_folded (n + nk a) b)
  left_folded n (either a b) = meet_or (left_of growing n a) (left_of growing (n + nk a) b) ∙ ap₂ (meet m.either) (left_folded n a) (left_folded (n + nk a) b)
  left_folded n (group a) = left_folded n a

  -- for any meaning of the words, not only yes and no
  pub made_fold : (t : Tree) → fold m (tree_for t) ≡ made_of m t
  unfolding fold
  made_fold t = go (left_of growing 0 t) ∙ ap (or_yes m) (left_folded 0 t)
    where
      go : (x : Left P.Tree) → fold m (or_yes growing x) ≡ or_yes m (folded x)
      go none = refl
      go (left u) = refl

-- the words of a tree are the postfix form of what is left
meet_words : (f : P.Tree → P.Tree → P.Tree) (v : ℕ) → ((a b : P.Tree) → postfix (f a b) ≡ postfix a ++ (postfix b ++ (v ∷ []))) →
    (x y : Left P.Tree) (p q : Bool) → is_left x ≡ p → is_left y ≡ q → words_of x ++ (words_of y ++ joint p q v) ≡ words_of (meet f x y)
meet_words f v e none none p q ep eq = rw (← ep)
meet_words f v e none (left y) p q ep eq = rw (← ep, append-nil)
meet_words f v e (left x) none p q ep eq = rw (← ep, ← eq, append-nil)
meet_words f v e (left x) (left y) p q ep eq = rw (← ep, ← eq, e)

in_words : (n : ℕ) (v : Verdict) → push v n ≡ words_of (left_in growing n v)
unfolding postfix
in_words n (Kept c) = refl
in_words n (KeptWarned c) = refl
in_words n (Ignored kind) = refl
in_words n (IgnoredTwice kind) = refl

left_words : (n : ℕ) (t : Tree) → words_from n t ≡ words_of (left_of growing n t)
unfolding words_from left_of postfix
left_words n (compared v x) = in_words n v
left_words n (both a b) =
    rw (left_words n a, left_words (n + nk a) b)
    (meet_words and 64 (λ x y. refl) (left_of growing n a) (left_of growing (n + nk a) b) (some a) (some b) (left_some growing n a) (left_some growing (n + nk a) b))
left_words n (either a b) =
    rw (left_words n a, left_words (n + nk a) b)
    (meet_words or 65 (λ x y. refl) (left_of growing n a) (left_of growing (n + nk a) b) (some a) (some b) (left_some growing n a) (left_some growing (n + nk a) b))
left_words n (group a) = left_words n a

-- the program of a tree is the postfix form of the program's tree, leaf yes where nothing is kept
pub program_postfix : (t : Tree) → program t ≡ postfix (tree_for t)
unfolding program postfix
program_postfix t = go (left_of growing 0 t) (some t) (left_some growing 0 t) (left_words 0 t)
  where
    go : (x : Left P.Tree) (b : Bool) → is_left x ≡ b → words_from 0 t ≡ words_of x → cond b (words_from 0 t) (66 ∷ []) ≡ postfix (or_yes growing x)
    go none b e w = rw (← e)
    go (left u) b e w = rw (← e) w

-- numbers below the count
abbrev Low : ℕ → Left P.Tree → Type 0
Low count none = Unit {0}
Low count (left u) = Below count u

meet_low : (f : P.Tree → P.Tree → P.Tree) (count : ℕ) → ((a b : P.Tree) → Below count a → Below count b → Below count (f a b)) → (x y : Left P.Tree) → Low count x → Low count y → Low count (meet f x y)
meet_low f count h none y a b = b
meet_low f count h (left x) none a b = a
meet_low f count h (left x) (left y) a b = h x y a b

in_low : (count n : ℕ) (v : Verdict) → n + length (kept_in v) ≤ count → Low count (left_in growing n v)
unfolding Below
in_low count n (Kept c) h = omega arith
in_low count n (KeptWarned c) h = omega arith
in_low count n (Ignored kind) h = tt
in_low count n (IgnoredTwice kind) h = tt

left_low : (count n : ℕ) (t : Tree) → n + nk t ≤ count → Low count (left_of growing n t)
unfolding left_of kept_of Below
left_low count n (compared v x) h = in_low count n v h
left_low count n (both a b) h =
    let l = length-append (kept_of a) (kept_of b) in
    meet_low and count (λ x y p q. (p, q)) (left_of growing n a) (left_of growing (n + nk a) b) (left_low count n a (omega arith)) (left_low count (n + nk a) b (omega arith))
left_low count n (either a b) h =
    let l = length-append (kept_of a) (kept_of b) in
    meet_low or count (λ x y p q. (p, q)) (left_of growing n a) (left_of growing (n + nk a) b) (left_low count n a (omega arith)) (left_low count (n + nk a) b (omega arith))
left_low count n (group a) h = left_low count n a h

-- values that stand at once: an item of depth d needs at most 1 + 2 d, a chain one more than its items
abbrev Slim : ℕ → Left P.Tree → Type 0
Slim m none = Unit {0}
Slim m (left u) = slots u ≤ m

abbrev Slims : ℕ → Parsed → Type 0
Slims m (got t e) = (n : ℕ) → Slim m (left_of growing n t)
Slims m (fault why) = Unit {0}

abbrev Small : ℕ → (ℕ → ℕ → ℕ → Parsed) → Type 0
Small m item = (at k w : ℕ) → Slims m (item at k w)

slim_more : (m n : ℕ) (x : Left P.Tree) → m ≤ n → Slim m x → Slim n x
slim_more m n none h l = tt
slim_more m n (left u) h l = omega arith

slims_more : (m n : ℕ) (p : Parsed) → m ≤ n → Slims m p → Slims n p
slims_more m n (got t e) h l = λ i. slim_more m n (left_of growing i t) h (l i)
slims_more m n (fault why) h l = tt

meet_slim : (f : P.Tree → P.Tree → P.Tree) (m : ℕ) → ((a b : P.Tree) → slots (f a b) ≡ max (slots a) (1 + slots b)) → (x y : Left P.Tree) → Slim (m + 1) x → Slim m y → Slim (m + 1) (meet f x y)
meet_slim f m e none y a b = slim_more m (m + 1) y (omega arith) b
meet_slim f m e (left x) none a b = a
meet_slim f m e (left x) (left y) a b = omega (arith, e x y)

chain_small : (f : ℕ) (goes : ℕ → Ahead) (mk : Tree → Tree → Tree) (g : P.Tree → P.Tree → P.Tree) (item : ℕ → ℕ → ℕ → Parsed) (m : ℕ) →
    ((n : ℕ) (t u : Tree) → left_of growing n (mk t u) ≡ meet g (left_of growing n t) (left_of growing (n + nk t) u)) →
    ((a b : P.Tree) → slots (g a b) ≡ max (slots a) (1 + slots b)) → Small m item → Small (m + 1) (chain f goes mk item)
chain_small f goes mk g item m made e h at k w =
    chain_ind f goes mk item (Slims (m + 1)) k w (λ why. tt) step at (slims_more m (m + 1) (item at k w) (omega arith) (h at k w))
  where
    step : (t : Tree) (e' j : ℕ) → Slims (m + 1) (got t e') → goes e' ≡ on j → (u : Tree) (d : ℕ) → item j (k + nk t) (w + nw t) ≡ got u d → Slims (m + 1) (got (mk t u) d)
    step t e' j lt eg u d eq n =
        let lu : Slims m (got u d) = rw eq at (h j (k + nk t) (w + nw t)) in
        rw (made n t u) (meet_slim g m e (left_of growing n t) (left_of growing (n + nk t) u) (lt n) (lu (n + nk t)))

in_slim : (n : ℕ) (v : Verdict) → Slim 1 (left_in growing n v)
unfolding slots
in_slim n (Kept c) = omega arith
in_slim n (KeptWarned c) = omega arith
in_slim n (Ignored kind) = tt
in_slim n (IgnoredTwice kind) = tt

settle_small : (found : Result Found Refusal) (k w : ℕ) → Slims 1 (settle found k w)
unfolding settle settled left_of
settle_small (Ok f) k w =
    by_test (Slims 1) (ltb 64 (w + length (warned_in f.verdict f.span))) _ _ (λ _. tt)
    (λ _. by_test (Slims 1) (ltb 64 (k + length (kept_in f.verdict))) _ _ (λ _. tt) (λ _. λ n. in_slim n f.verdict))
settle_small (Err why) k w = tt

or_small : (s : List ℕ) (inner : ℕ → ℕ → ℕ → Parsed) (m : ℕ) → 1 ≤ m → Small m inner → Small (m + 1 + 1) (or_of s inner)
unfolding or_of and_of slots left_of
or_small s inner m pos h =
    chain_small (length s) (word_ahead or_word s) either or (and_of s inner) (m + 1) (λ n t u. refl) (λ a b. refl)
    (chain_small (length s) (word_ahead and_word s) both and (item_of s inner) m (λ n t u. refl) (λ a b. refl) item_small)
  where
    item_small : Small m (item_of s inner)
    item_small at k w =
        item_ind s inner (Slims m) at k w (h (skip is_space s at) k w)
        (slims_more 1 m (settle (found_at s (skip is_space s at)) k w) pos (settle_small (found_at s (skip is_space s at)) k w))

closed_small : (s : List ℕ) (m at : ℕ) (p : Parsed) → Slims m p → Slims m (closed s at p)
unfolding closed left_of
closed_small s m at (got t e) l =
    let d = skip is_space s e in
    by_test (Slims m) (eqb (byte_at s d) (code ")")) _ _ (λ _. l) (λ _. by_test (Slims m) (ltb d (length s)) _ _ (λ _. tt) (λ _. tt))
closed_small s m at (fault why) l = tt

group_small : (s : List ℕ) (d : ℕ) → Small (1 + 2 * d) (group_at s d)
unfolding group_at
group_small s zero at k w = tt
group_small s (suc d) at k w =
    closed_small s (1 + 2 * suc d) at (or_of s (group_at s d) (at + 1) k w) (rw (two d) (or_small s (group_at s d) (1 + 2 * d) (omega arith) (group_small s d) (at + 1) k w))
  where
    two : (d : ℕ) → 1 + 2 * suc d ≡ 1 + 2 * d + 1 + 1
    two d = omega arith

parse_small : (s : List ℕ) (at : ℕ) → Slims 35 (parse_from s at)
unfolding parse_from ending
parse_small s at = go (or_of s (group_at s 16) at 0 0) (or_small s (group_at s 16) 33 (omega arith) (group_small s 16) at 0 0)
  where
    go : (p : Parsed) → Slims 35 p → Slims 35 (ending s p)
    go (got t e) l = by_test (Slims 35) (ltb (skip is_space s e) (length s)) _ _ (λ _. tt) (λ _. l)
    go (fault why) l = tt

-- a marker that is accepted, as the tree t
module _ (s : List ℕ) (at : ℕ) (t : Tree) (e : ℕ) (read : parse_from s at ≡ got t e) where
  pub kept_few : nk t ≤ max_comparisons
  kept_few = let sn : Sane at 0 0 (got t e) = rw read at (parse_sane s at) in omega (arith, sn.1)

  -- the tree of its program is within the limits: numbers below the count, at most 127 words, 35 slots suffice
  pub program_within : Within (tree_for t) (length (kept_of t))
  unfolding Below slots
  program_within = record {
    few = kept_few;
    below = below (left_of growing 0 t) (left_low (nk t) 0 t (omega arith));
    short = rw (← program_postfix t) (program_short t kept_few);
    small = let small : Slims 35 (got t e) = rw read at (parse_small s at) in slim (left_of growing 0 t) (small 0);
  }
    where
      below : (x : Left P.Tree) → Low (nk t) x → Below (nk t) (or_yes growing x)
      below none l = tt
      below (left u) l = l

      slim : (x : Left P.Tree) → Slim 35 x → slots (or_yes growing x) ≤ 35
      slim none l = omega arith
      slim (left u) l = l

  -- so it passes for its count of kept comparisons
  pub program_passes : checked_program (program t) (length (kept_of t)) ≡ passes
  program_passes = rw (program_postfix t) (within_passes (tree_for t) (nk t) program_within)

  -- and for every assignment it answers what the grammar's tree says
  pub program_says : (assignment : ℕ) → ran (program t) (length (kept_of t)) assignment ≡ good (value_of (bit assignment) t)
  program_says assignment = rw (program_postfix t) (within_ran (tree_for t) (nk t) assignment program_within ∙ ap good (made_fold (saying (bit assignment)) t))

-- in terms of the answer: whatever marker is accepted, its program passes for its count of comparisons
pub answer_passes : (s : List ℕ) (at : ℕ) (m : Marking) → marker_answer s at ≡ good m → checked_program m.words (length m.comparisons) ≡ passes
unfolding given
answer_passes s at m h = go (parse_from s at) refl h
  where
    go : (p : Parsed) → parse_from s at ≡ p → answered p ≡ good m → checked_program m.words (length m.comparisons) ≡ passes
    go (got t e) read q = let z : marking t ≡ m = cc in rw (← z) (program_passes s at t e read)
    go (fault why) read q = let z : ◌≡◌ {A = ℕ} 0 1 = cc in absurd (omega arith)

-- and run under any assignment it answers what the grammar's tree says, with ignored comparisons and emptied groups dropped, and yes if nothing is
-- left: comparison k of the tree is bit k
pub answer_says : (s : List ℕ) (at : ℕ) (m : Marking) → marker_answer s at ≡ good m → (t : Tree) (e : ℕ) → parse_from s at ≡ got t e → (assignment : ℕ) →
    ran m.words (length m.comparisons) assignment ≡ good (value_of (bit assignment) t)
answer_says s at m h t e read assignment =
    let q : answered (got t e) ≡ good m = rw read at h in
    let z : marking t ≡ m = cc in
    rw (← z) (program_says s at t e read assignment)

-- a line that the entry accepts is one whose marker is accepted
entry_good : (s : List ℕ) (m : Marking) → entry_answer s ≡ good m → marker_answer s 0 ≡ good m
entry_good s m h = go (ltb 4096 (length s)) (ltb (run is_ascii s) (length s)) h
  where
    go : (x y : Bool) → cond x (refused 1 4096 1) (cond y (refused 2 (run is_ascii s) 1) (marker_answer s 0)) ≡ good m → marker_answer s 0 ≡ good m
    go true y e = let z : ◌≡◌ {A = ℕ} 0 1 = cc in absurd (omega arith)
    go false true e = let z : ◌≡◌ {A = ℕ} 0 1 = cc in absurd (omega arith)
    go false false e = e

-- so both hold of the marker entry, after refusals 1 and 2
pub entry_passes : (s : List ℕ) (m : Marking) → entry_answer s ≡ good m → checked_program m.words (length m.comparisons) ≡ passes
entry_passes s m h = answer_passes s 0 m (entry_good s m h)

pub entry_says : (s : List ℕ) (m : Marking) → entry_answer s ≡ good m → (t : Tree) (e : ℕ) → parse_from s 0 ≡ got t e → (assignment : ℕ) →
    ran m.words (length m.comparisons) assignment ≡ good (value_of (bit assignment) t)
entry_says s m h t e read assignment = answer_says s 0 m (entry_good s m h) t e read assignment
