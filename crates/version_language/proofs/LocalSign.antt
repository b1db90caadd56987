-- A version has a local part exactly if it has a `+`. Assumes nothing.
use mathlib.Core.Path.{◌≡◌, refl, sym, ap, ◌∙◌}
use mathlib.Core.Bool.{Bool, true, false, cond, ◌&&◌, ◌||◌, or-true, false≢true, true≢false}
use mathlib.Core.List.{List, [], ◌∷◌, ◌++◌, map}
use mathlib.Core.Logic.{inl, inr}
use mathlib.Core.Option.{some}
use Prim.Native.Nat.{ℕ, ◌+◌}
use Prim.Native.Char.{code}
use native.Mathlib.Omega.{arith}
use borrow.Author.Tests.{eqb-true, eq-eqb, ltb-true, ltb-false}
use lib.Dec.{ltb, eqb}
use lib.ListN.{length, take, drop, take-append-drop}
use lib.Seq.{slice}
use Rattle.std.proofs.lemmas.Bool.{and_parts}
use Rattle.text.specs.Class.{is_space, is_digit, is_separator, small}
use Rattle.text.specs.Word.{bytes}
use Rattle.version_language.proofs.Bytes.{listed}
use Rattle.version_language.proofs.Parts.{local, released}
use Rattle.version_language.proofs.Readings.{read_version}
use Rattle.version_language.proofs.Sound.{local_front, parts_matches, ending, released_matches}
use Rattle.version_language.specs.Appendix.{Regex, Many, none, some as more, matches, all, one, word, text, opt, many, ◌then◌, ◌or◌, spaces, number, bounded, pre, post, dev}
use Rattle.version_parts.specs.Local.{local_len}
use Rattle.version.specs.Layout.{layout, has_release, has_local, ends_at}
use Rattle.version.specs.Reading.{Segment, Version, attach, pieces, segment, reading}
use Rattle.version.specs.Rules.{is_version}

-- whether a list has members
abbrev pub filled : {A : Type 0} → List A → Bool
filled [] = false
filled (x ∷ l) = true

-- whether a text has a `+`
abbrev pub signed : List ℕ → Bool
signed s = listed s (code "+")

signed_left : (u v : List ℕ) → signed u ≡ true → signed (u ++ v) ≡ true
signed_left [] v h = absurd (false≢true h)
signed_left (b ∷ u) v h = go (eqb (code "+") b) h (signed_left u v)
  where
    go : (t : Bool) → (t || signed u) ≡ true → (signed u ≡ true → signed (u ++ v) ≡ true) → (t || signed (u ++ v)) ≡ true
    go true h again = refl
    go false h again = again h

signed_right : (u v : List ℕ) → signed v ≡ true → signed (u ++ v) ≡ true
signed_right [] v h = h
signed_right (b ∷ u) v h = rw (signed_right u v h) (or-true (eqb (code "+") b))

pub unsigned_joined : (u v : List ℕ) → signed u ≡ false → signed v ≡ false → signed (u ++ v) ≡ false
unsigned_joined [] v h k = k
unsigned_joined (b ∷ u) v h k = go (eqb (code "+") b) h (λ h. unsigned_joined u v h k)
  where
    go : (t : Bool) → (t || signed u) ≡ false → (signed u ≡ false → signed (u ++ v) ≡ false) → (t || signed (u ++ v)) ≡ false
    go true h again = absurd (true≢false h)
    go false h again = again h

-- a byte that is not the sign
other : (p : ℕ → Bool) → p (code "+") ≡ false → (b : ℕ) → p b ≡ true → eqb (code "+") b ≡ false
other p out b h = go (eqb (code "+") b) refl
  where
    go : (t : Bool) → eqb (code "+") b ≡ t → eqb (code "+") b ≡ false
    go true e = absurd (false≢true (sym out ∙ ap p (eqb-true (code "+") b e) ∙ h))
    go false e = e

pub class_unsigned : (p : ℕ → Bool) → p (code "+") ≡ false → (s : List ℕ) → all p s ≡ true → signed s ≡ false
class_unsigned p out [] h = refl
class_unsigned p out (b ∷ s) h =
    let (first, rest) = and_parts (p b) (all p s) h in
    rw (other p out b first) (class_unsigned p out s rest)

small_unsigned : (s : List ℕ) → signed (map small s) ≡ false → signed s ≡ false
small_unsigned [] h = refl
small_unsigned (b ∷ s) h = go (eqb (code "+") b) (eqb (code "+") (small b)) refl refl h (small_unsigned s)
  where
    go : (t u : Bool) → eqb (code "+") b ≡ t → eqb (code "+") (small b) ≡ u → (u || signed (map small s)) ≡ false → (signed (map small s) ≡ false → signed s ≡ false) → (t || signed s) ≡ false
    go t true e f h again = absurd (true≢false h)
    go true false e f h again = absurd (true≢false (sym (eq-eqb (code "+") (small b) (ap small (eqb-true (code "+") b e))) ∙ f))
    go false false e f h again = again h

-- an expression that matches no text with a `+`, from its pieces
abbrev Free : Regex → Type 0
Free (one p) = p (code "+") ≡ false
Free (word w) = signed (bytes w) ≡ false
Free (text t) = (s : List ℕ) → t s ≡ true → signed s ≡ false
Free (r then q) = Free r × Free q
Free (r or q) = Free r × Free q
Free (opt r) = Free r
Free (many r) = Free r

many_unsigned : (P : List ℕ → Type 0) → ((u : List ℕ) → P u → signed u ≡ false) → (s : List ℕ) → Many P s → signed s ≡ false
many_unsigned P each s none = refl
many_unsigned P each s (more u v e m rest) = rw e (unsigned_joined u v (each u m) (many_unsigned P each v rest))

unsigned : (r : Regex) → Free r → (s : List ℕ) → matches r s → signed s ≡ false
unsigned (one p) out s (b, e, h) = rw (e, other p out b h)
unsigned (word w) out s m = small_unsigned s (rw m out)
unsigned (text t) out s m = out s m
unsigned (r then q) (a, b) s (u, v, e, m, k) = rw e (unsigned_joined u v (unsigned r a u m) (unsigned q b v k))
unsigned (r or q) (a, b) s (inl m) = unsigned r a s m
unsigned (r or q) (a, b) s (inr m) = unsigned q b s m
unsigned (opt r) out s (inl e) = rw e
unsigned (opt r) out s (inr m) = unsigned r out s m
unsigned (many r) out s m = many_unsigned (matches r) (unsigned r out) s m

spaces_free : Free spaces
spaces_free s h = class_unsigned is_space refl s h

number_free : Free number
number_free s h = class_unsigned is_digit refl s (and_parts (ltb 0 (length s)) (all is_digit s) (and_parts (ltb 0 (length s) && all is_digit s) (bounded s) h).0).1

-- a version without a local part
abbrev plain : Regex
plain = released (opt pre then opt post then opt dev then spaces)

plain_free : Free plain
plain_free =
    (spaces_free, (refl, ((number_free, refl), (number_free, ((refl, number_free), (pre_free, (post_free, (dev_free, spaces_free))))))))
  where
    pre_free : Free (opt pre)
    pre_free = (refl, ((refl, (refl, (refl, (refl, (refl, (refl, (refl, refl))))))), (refl, number_free)))

    post_free : Free (opt post)
    post_free = ((refl, number_free), (refl, ((refl, (refl, refl)), (refl, number_free))))

    dev_free : Free (opt dev)
    dev_free = (refl, (refl, (refl, number_free)))

-- without a local part the text is one of that expression
plain_matches : (s : List ℕ) → is_version s ≡ true → has_local (layout s) ≡ false → matches plain s
unfolding is_version layout
plain_matches s h lacks =
    let (there, end) = and_parts (has_release (layout s)) (ends_at s (layout s).local) h in
    let same : (layout s).local ≡ (layout s).dev = omega (arith, ltb-false (layout s).dev (layout s).local lacks) in
    released_matches (opt pre then opt post then opt dev then spaces) s there
    (parts_matches spaces s (layout s).release (ending s (layout s).dev (rw same at end)))

-- and a local part begins with the sign
local_signed : (s : List ℕ) → has_local (layout s) ≡ true → signed s ≡ true
unfolding layout
local_signed s h = go (local_front rest (omega (arith, ltb-true (layout s).dev (layout s).local h)))
  where
    rest : List ℕ
    rest = drop (layout s).dev s

    go : matches local (take (local_len rest) rest) → signed s ≡ true
    go (u, v, e, (b, f, h), m) =
        let front : signed (take (local_len rest) rest) ≡ true = rw (e, f, eqb-true b (code "+") h) in
        let whole : signed rest ≡ true = rw (take-append-drop (local_len rest) rest) at (signed_left (take (local_len rest) rest) (drop (local_len rest) rest) front) in
        rw (take-append-drop (layout s).dev s) at (signed_right (take (layout s).dev s) rest whole)

-- a text falls into at least one piece
attach_filled : (b : ℕ) (l : List (List ℕ)) → filled (attach b l) ≡ true
attach_filled b [] = refl
attach_filled b (piece ∷ l) = refl

pieces_filled : (p : ℕ → Bool) (s : List ℕ) → filled (pieces p s) ≡ true
unfolding pieces
pieces_filled p [] = refl
pieces_filled p (b ∷ s) = go (p b)
  where
    go : (t : Bool) → filled (cond t ([] ∷ pieces p s) (attach b (pieces p s))) ≡ true
    go true = refl
    go false = attach_filled b (pieces p s)

map_filled : {A B : Type 0} (f : A → B) (l : List A) → filled (map f l) ≡ filled l
map_filled f [] = refl
map_filled f (x ∷ l) = refl

-- the layout has a local part exactly if the text has a `+`
pub local_is : (s : List ℕ) → is_version s ≡ true → has_local (layout s) ≡ signed s
local_is s good = go (has_local (layout s)) refl
  where
    go : (t : Bool) → has_local (layout s) ≡ t → t ≡ signed s
    go true e = sym (local_signed s e)
    go false e = sym (unsigned plain plain_free s (plain_matches s good e))

-- "optional `+` local part": the version that a text is read as has local segments exactly if the text has a `+`
pub local_sign : (s : List ℕ) (v : Version) → reading s ≡ some (v, false) → filled v.local ≡ signed s
local_sign s v h =
    let (good, same) = read_version s v h in
    let segments = pieces is_separator (slice ((layout s).dev + 1) (layout s).local s) in
    rw (same, ← local_is s good) (go (has_local (layout s)) (map segment segments) (map_filled segment segments ∙ pieces_filled is_separator (slice ((layout s).dev + 1) (layout s).local s)))
  where
    go : (t : Bool) (l : List Segment) → filled l ≡ true → filled (cond t l []) ≡ t
    go true l h = h
    go false l h = refl
