-- A specifier is some cut into white space, an operator, white space, a version or pattern that may go with it, and white space: both directions.
-- Assumes nothing.
use mathlib.Core.Path.{◌≡◌, refl, sym, ap, ◌∙◌}
use mathlib.Core.Bool.{Bool, true, false, cond, not, ◌&&◌, ◌||◌, or-true, false≢true, true≢false}
use mathlib.Core.List.{List, [], ◌∷◌, ◌++◌, append_assoc, append-nil}
use mathlib.Core.Logic.{inl, inr}
use Prim.Native.Nat.{ℕ, zero, suc, ◌+◌, ◌-◌, ◌<◌}
use Prim.Native.Char.{code}
use native.Mathlib.Nat.{zero-add}
use native.Mathlib.Omega.{arith}
use borrow.Author.Tests.{lt-ltb, ltb-true, eqb-true, ne_eqb, not-true}
use lib.Dec.{eqb}
use lib.ListN.{length, take, drop, take-append-drop, length-append}
use lib.Seq.{drop_at, drop-drop}
use Rattle.refusal.specs.Refusal.{span}
use Rattle.refusal.specs.declared.place.Span.{Span}
use Rattle.text.proofs.Cases.{by_order}
use Rattle.std.proofs.lemmas.Bool.{and_parts}
use Rattle.text.proofs.Reach.{skip_from}
use Rattle.text.proofs.Words.{spells_bytes}
use Rattle.text.specs.Class.{is_space, is_digit, is_operator_byte}
use Rattle.text.specs.Scan.{run, skip, byte_at}
use Rattle.text.specs.Word.{bytes, spells, begins_by}
use Rattle.version_language.proofs.Bytes.{Ascii}
use Rattle.version_language.proofs.Complete.{matches_accepted, parts_end, star_ends, star_accepted}
use Rattle.version_language.proofs.LocalSign.{signed, unsigned_joined, class_unsigned, local_is}
use Rattle.version_language.proofs.Matching.{run_all}
use Rattle.version_language.proofs.Parts.{after_release, starred, begun, from_first, from_v, released}
use Rattle.version_language.proofs.Release.{EndsFirst, EndsRelease, ends_first, begun_not, first_place, others_whole}
use Rattle.version_language.proofs.Sound.{ends_matches, begun_matches, others_front, accepted_matches, star_taken}
use Rattle.version_language.proofs.TwoNumbers.{more_room}
use Rattle.version_language.proofs.Whole.{run_whole}
use Rattle.version_language.specs.Appendix.{Regex, none, some, matches, all, one, word, text, opt, many, ◌then◌, ◌or◌, sign, spaces, number, version_regex}
use Rattle.version_number.specs.Number.{number_len}
use Rattle.version_operator.specs.Operator.{spelling, operators, operator_among, operator_in, takes}
use Rattle.version_operator.specs.declared.operator.Operator.{Operator}
use Rattle.version_operator.specs.declared.operator.Operator.TheVariants.{LessEqual, Less, NotEqual, Equal, GreaterEqual, Greater, Compatible, Exact}
use Rattle.version_parts.specs.Joined.{more}
use Rattle.version_parts.specs.Release.{is_dot}
use Rattle.version.specs.Layout.{layout, has_release, has_two, has_local, ends_at, is_version_at, is_starred_at}
use Rattle.std.specs.Prelude.{Option, Some, None}
use Rattle.version.specs.Rules.{is_version, suits, goes_with, suits_token, is_specifier}

-- "A text is whitespace, operator, whitespace, version or pattern, whitespace."
pub record Specifier (s : List ℕ) : Type 0 where
  pub op : Operator
  pub before : List ℕ
  pub between : List ℕ
  pub text : List ℕ
  pub behind : List ℕ
  pub whole : s ≡ before ++ (bytes (spelling op) ++ (between ++ (text ++ behind)))
  pub blank_before : all is_space before ≡ true
  pub blank_between : all is_space between ≡ true
  pub blank_behind : all is_space behind ≡ true
  pub goes : goes_with op text ≡ true

-- White space around a version or pattern changes nothing: first what the expressions match.
all_joined : (p : ℕ → Bool) (u v : List ℕ) → all p u ≡ true → all p v ≡ true → all p (u ++ v) ≡ true
all_joined p [] v h k = k
all_joined p (b ∷ u) v h k =
    let (first, rest) = and_parts (p b) (all p u) h in
    rw first (all_joined p u v rest k)

-- an expression that white space may follow, since it ends in a test that white space passes
abbrev Open : Regex → Type 0
Open (one p) = ⊥
Open (word w) = ⊥
Open (text t) = (s c : List ℕ) → all is_space c ≡ true → t s ≡ true → t (s ++ c) ≡ true
Open (r then q) = Open q
Open (r or q) = Open r × Open q
Open (opt r) = ⊥
Open (many r) = ⊥

longer : (r : Regex) → Open r → (s c : List ℕ) → all is_space c ≡ true → matches r s → matches r (s ++ c)
longer (one p) o s c h m = absurd o
longer (word w) o s c h m = absurd o
longer (text t) o s c h m = o s c h m
longer (r then q) o s c h (u, v, e, m, k) = (u, v ++ c, rw e (append_assoc u v c), m, longer q o v c h k)
longer (r or q) (o, o') s c h (inl m) = inl (longer r o s c h m)
longer (r or q) (o, o') s c h (inr m) = inr (longer q o' s c h m)
longer (opt r) o s c h m = absurd o
longer (many r) o s c h m = absurd o

spaces_open : Open spaces
spaces_open s c h m = all_joined is_space s c m h

padded : (r : Regex) → Open r → (b s c : List ℕ) → all is_space b ≡ true → all is_space c ≡ true → matches (spaces then r) s → matches (spaces then r) (b ++ (s ++ c))
padded r o b s c before behind (u, w, e, space, m) =
    (b ++ u, w ++ c, rw (e, append_assoc u w c, ← append_assoc b u (w ++ c)), all_joined is_space b u before space, longer r o w c behind m)

-- A release of two numbers or more: the expression with a second one.
abbrev second : Regex → Regex
second K = (sign "." then number) then from_first K

second_ends : (K : Regex) → EndsFirst (second K)
second_ends K = record {
  no_digit = λ w m. dotted w m is_digit refl;
  no_mark = λ w m. dotted w m (λ b. eqb b (code "!")) refl;
}
  where
    dotted : (w : List ℕ) → matches (second K) w → (p : ℕ → Bool) → p (code ".") ≡ false → p (byte_at w 0) ≡ false
    dotted w (a, t, e, (j, x, f, (b, g, h), num), m) p out = rw (e, f, g, eqb-true b (code ".") h) out

take_some : (r : ℕ) (w : List ℕ) → 0 < r → 0 < length w → 0 < length (take r w)
take_some zero w h l = absurd (omega arith)
take_some (suc r) [] h l = absurd (omega arith)
take_some (suc r) (b ∷ w) h l = omega arith

second_from : (K : Regex) (m k : List ℕ) → matches (many (sign "." then number)) m → 0 < length m → matches K k → matches (second K) (m ++ k)
second_from K m k none l h = absurd (omega arith)
second_from K m k (some a rest e item again) l h = (a, rest ++ k, rw e (append_assoc a rest k), item, (rest, k, refl, again, h))

two_matches : (s : List ℕ) → is_version s ≡ true → has_two (layout s) ≡ true → matches (begun (second after_release)) s
unfolding is_version layout
two_matches s h two =
    let (there, end) = and_parts (has_release (layout s)) (ends_at s (layout s).local) h in
    let w = drop (layout s).first s in
    let r = more is_dot number_len w in
    let some : 0 < r = omega (arith, ltb-true (layout s).first (layout s).release two) in
    let rest : matches after_release (drop r w) = rw (drop-drop r (layout s).first s) (ends_matches s (layout s).release end) in
    begun_matches (second after_release) s there
    (rw (take-append-drop r w) at (second_from after_release (take r w) (drop r w) (others_front w) (take_some r w some (more_room w some)) rest))

second_there : {K : Regex} → EndsRelease K → (w : List ℕ) → matches (second K) w → 0 < more is_dot number_len w
second_there ends w (a, t, e, (j, x, f, (b, g, h), num), (m, k, i, others, last)) =
    let long : more is_dot number_len ((a ++ m) ++ k) ≡ length (a ++ m) = others_whole ends (a ++ m) k (some a m refl (j, x, f, (b, g, h), num) others) last in
    rw (e, i, ← append_assoc a m k, long, length-append a m, f, g) (omega arith)

two_there : {K : Regex} → EndsRelease K → (s : List ℕ) → matches (begun (second K)) s → has_two (layout s) ≡ true
unfolding layout
two_there {K} ends s m =
    lt-ltb (layout s).first (layout s).release (omega (arith, second_there ends (drop (layout s).first s) (first_place (second_ends K) s m).1))

-- A version or pattern begins with no operator's byte.
operator_ascii : Ascii is_operator_byte
operator_ascii b h =
    by_order b 128 (λ l. l)
    (λ far. absurd (true≢false (sym h ∙ rw (ne_eqb b (code "<") (λ e. omega arith), ne_eqb b (code "=") (λ e. omega arith), ne_eqb b (code ">") (λ e. omega arith), ne_eqb b (code "~") (λ e. omega arith), ne_eqb b (code "!") (λ e. omega arith)))))

-- what goes with an operator still does with white space around it
module _ (op : Operator) (b v c : List ℕ) (before : all is_space b ≡ true) (behind : all is_space c ≡ true) where
  abbrev w : List ℕ
  w = b ++ (v ++ c)

  abbrev Goes : Type 0
  Goes = (goes_with op w ≡ true) × (is_operator_byte (byte_at w 0) ≡ false)

  suits_still : is_version v ≡ true → is_version w ≡ true → suits op (layout v) ≡ true → suits op (layout w) ≡ true
  suits_still old new h =
      let (first, next) = and_parts ((takes op).local || not (has_local (layout v))) (has_two (layout v) || not (takes op).two) h in
      rw (local (takes op).local first, two (has_two (layout v)) refl next)
    where
      local : (t : Bool) → (t || not (has_local (layout v))) ≡ true → (t || not (has_local (layout w))) ≡ true
      local true h = refl
      local false h =
          let none : signed v ≡ false = sym (local_is v old) ∙ not-true (has_local (layout v)) h in
          rw (local_is w new, unsigned_joined b (v ++ c) (class_unsigned is_space refl b before) (unsigned_joined v c none (class_unsigned is_space refl c behind)))

      two : (t : Bool) → has_two (layout v) ≡ t → (t || not (takes op).two) ≡ true → (has_two (layout w) || not (takes op).two) ≡ true
      two true e h =
          let m : matches (begun (second after_release)) w = padded (from_v (second after_release)) spaces_open b v c before behind (two_matches v old e) in
          rw (two_there parts_end w m)
      two false e h = rw h (or-true (has_two (layout w)))

  version_still : is_version v ≡ true → suits op (layout v) ≡ true → Goes
  unfolding goes_with is_version
  version_still old h =
      let m : matches version_regex w = padded (from_v (from_first after_release)) spaces_open b v c before behind (accepted_matches v old) in
      let new = matches_accepted w m in
      (rw (new, suits_still old new h), begun_not (ends_first parts_end) is_operator_byte operator_ascii refl refl refl w m)

  star_still : is_starred_at (layout v) v ≡ true → (takes op).star ≡ true → Goes
  unfolding goes_with
  star_still h star =
      let m : matches (released starred) w = padded (from_v (from_first starred)) spaces_open b v c before behind (star_taken v h) in
      (rw (star_accepted w m, star) (or-true (is_version_at (layout w) w && suits op (layout w))), begun_not (ends_first star_ends) is_operator_byte operator_ascii refl refl refl w m)

  goes_still : goes_with op v ≡ true → Goes
  unfolding goes_with is_version
  goes_still h = go (is_version_at (layout v) v && suits op (layout v)) refl h
    where
      go : (t : Bool) → (is_version_at (layout v) v && suits op (layout v)) ≡ t → (t || is_starred_at (layout v) v && (takes op).star) ≡ true → Goes
      go true e h =
          let (old, fits) = and_parts (is_version_at (layout v) v) (suits op (layout v)) e in
          version_still old fits
      go false e h =
          let (old, star) = and_parts (is_starred_at (layout v) v) (takes op).star h in
          star_still old star

-- An operator is read where it is spelled
known : (op : Operator) (s w : List ℕ) (from : ℕ) → drop from s ≡ bytes (spelling op) ++ w → operator_in s (span from (length (bytes (spelling op)))) ≡ Some op
unfolding operator_among begins_by
known LessEqual s w from e = rw e
known Less s w from e = rw e
known NotEqual s w from e = rw e
known Equal s w from e = rw e
known GreaterEqual s w from e = rw e
known Greater s w from e = rw e
known Compatible s w from e = rw e
known Exact s w from e = rw e

-- and spelled where it is read
spelled : (ops : List Operator) (s : List ℕ) (at : Span) (op : Operator) → operator_among ops s at ≡ Some op → spells (bytes (spelling op)) s at ≡ true
unfolding operator_among
spelled [] s at op h = absurd (true≢false (cc))
spelled (o ∷ ops) s at op h = go (spells (bytes (spelling o)) s at) refl h (spelled ops s at op)
  where
    go : (t : Bool) → spells (bytes (spelling o)) s at ≡ t → cond t (Some o) (operator_among ops s at) ≡ Some op → (operator_among ops s at ≡ Some op → spells (bytes (spelling op)) s at ≡ true) → spells (bytes (spelling op)) s at ≡ true
    go true e h again = let same : o ≡ op = cc in rw same at e
    go false e h again = again h

-- an operator's bytes are operators' bytes, and no white space
operator_all : (op : Operator) → all is_operator_byte (bytes (spelling op)) ≡ true
operator_all LessEqual = refl
operator_all Less = refl
operator_all NotEqual = refl
operator_all Equal = refl
operator_all GreaterEqual = refl
operator_all Greater = refl
operator_all Compatible = refl
operator_all Exact = refl

operator_starts : (op : Operator) (w : List ℕ) → is_space (byte_at (bytes (spelling op) ++ w) 0) ≡ false
operator_starts LessEqual w = refl
operator_starts Less w = refl
operator_starts NotEqual w = refl
operator_starts Equal w = refl
operator_starts GreaterEqual w = refl
operator_starts Greater w = refl
operator_starts Compatible w = refl
operator_starts Exact w = refl

-- a specifier, from the places of its pieces
specifier_at : (s : List ℕ) (from to n : ℕ) (op : Operator) → skip is_space s 0 ≡ from → skip is_operator_byte s from ≡ to → to - from ≡ n → operator_in s (span from n) ≡ Some op → goes_with op (drop to s) ≡ true → is_specifier s ≡ true
unfolding is_specifier
specifier_at s from to n op first next size token goes = rw (first, next, size, token) goes

specifier_of : (op : Operator) (a w : List ℕ) → all is_space a ≡ true → is_operator_byte (byte_at w 0) ≡ false → goes_with op w ≡ true → is_specifier (a ++ (bytes (spelling op) ++ w)) ≡ true
unfolding skip
specifier_of op a w space stop goes =
    let o = bytes (spelling op) in
    let s = a ++ (o ++ w) in
    let behind : drop (length a) s ≡ o ++ w = drop_at a (o ++ w) (length a) refl in
    let first : skip is_space s 0 ≡ length a = zero-add (run is_space s) ∙ run_whole is_space a (o ++ w) space (operator_starts op w) in
    let next : skip is_operator_byte s (length a) ≡ length a + length o = rw (behind, run_whole is_operator_byte o w (operator_all op) stop) in
    let last : drop (length a + length o) s ≡ w = sym (drop-drop (length o) (length a) s) ∙ rw behind (drop_at o w (length o) refl) in
    specifier_at s (length a) (length a + length o) (length o) op first next (omega arith) (known op s w (length a) behind) (rw last goes)

-- each such cut is a specifier
pub cut_specifier : (s : List ℕ) → Specifier s → is_specifier s ≡ true
cut_specifier s cut =
    let (goes, stop) = goes_still cut.op cut.between cut.text cut.behind cut.blank_between cut.blank_behind cut.goes in
    rw cut.whole (specifier_of cut.op cut.before (cut.between ++ (cut.text ++ cut.behind)) cut.blank_before stop goes)

first_blank : (s : List ℕ) → all is_space (take (skip is_space s 0) s) ≡ true
unfolding skip
first_blank s = rw (zero-add (run is_space s)) (run_all is_space s)

-- each specifier has such a cut
pub specifier_cut : (s : List ℕ) → is_specifier s ≡ true → Specifier s
unfolding is_specifier
specifier_cut s h = go (operator_in s (span from (to - from))) refl h
  where
    from : ℕ
    from = skip is_space s 0

    to : ℕ
    to = skip is_operator_byte s from

    cut : (op : Operator) → operator_in s (span from (to - from)) ≡ Some op → s ≡ take from s ++ (bytes (spelling op) ++ (drop to s ++ []))
    cut op e =
        let this : take (to - from) (drop from s) ≡ bytes (spelling op) = spells_bytes (bytes (spelling op)) s (span from (to - from)) (spelled operators s (span from (to - from)) op e) in
        let place : from + (to - from) ≡ to = omega (arith, skip_from is_operator_byte s from) in
        let behind : drop (to - from) (drop from s) ≡ drop to s = drop-drop (to - from) from s ∙ ap (λ (n : ℕ). drop n s) place in
        rw (append-nil (drop to s), ← this, ← behind, take-append-drop (to - from) (drop from s), take-append-drop from s)

    go : (t : Option Operator) → operator_in s (span from (to - from)) ≡ t → suits_token t (drop to s) ≡ true → Specifier s
    go None e h = absurd (false≢true h)
    go (Some op) e h = record {
      op = op;
      before = take from s;
      between = [];
      text = drop to s;
      behind = [];
      whole = cut op e;
      blank_before = first_blank s;
      blank_between = refl;
      blank_behind = refl;
      goes = h;
    }
