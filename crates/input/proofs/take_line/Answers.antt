use Rattle.std.proofs.Common.{ℕ, ◌≡◌, ◌≢◌, ◌+◌, ◌-◌, min, List, [], ◌∷◌, ◌++◌, length, take, set, get_or, All, arith, ap, sym, ◌∙◌, length-append, length-set}
use Rattle.std.proofs.lemmas.Grind.{common_steps}
use Rattle.std.proofs.KnownBytes.{Consumes-trans}
use Rattle.std.specs.Io.KnownBytes.{Consumes}
use Rattle.input.specs.Coming.{coming, IsLine}
use Rattle.input.proofs.take_line.Goals.{in-Some, in-None+in-Ok-Some}
use Rattle.input.proofs.take_line.Goals as goal

all_more : (text : List ℕ) (b : ℕ) → All (λ x. x ≢ 10) text → b ≢ 10 → All (λ x. x ≢ 10) (text ++ b ∷ [])
all_more text b all h = grind (arith, common_steps)

kept_more : (front text : List ℕ) (n b : ℕ) → length front ≡ 20001 → length text ≡ n → take (min n 20001) front ≡ take (min n 20001) text
    → take (min (n + 1) 20001) (set front n b) ≡ take (min (n + 1) 20001) (text ++ b ∷ [])
kept_more front text n b room counted kept = grind (arith, common_steps)

ends_with : (text : List ℕ) (n b : ℕ) → length text ≡ n → b ≡ get_or (text ++ b ∷ []) (n + 1 - 1) 0
ends_with text n b counted = grind (arith, common_steps)

-- a byte behind a line's bytes
one_more : (n last b : ℕ) (front text : List ℕ) → length front ≡ 20001 → b ≢ 10 → IsLine n (min n 20001) last front text
    → IsLine (n + 1) (min (n + 1) 20001) b (set front n b) (text ++ b ∷ [])
one_more n last b front text room h was =
    record {
      counted = length-append text (b ∷ []) ∙ ap (λ m. m + 1) was.counted;
      one = all_more text b was.one h;
      kept = kept_more front text n b room was.counted was.kept;
      ending = ends_with text n b was.counted;
    }

pub loop-len-preserved : goal.loop-len-preserved
loop-len-preserved g c =
    let so_far = c.loop-len.invariant in
    let next = c.match-fetched_byte.byte in
    let room : length c.loop-len.line ≡ 20001 = sym (length-set c.loop-len.line c.loop-len.len next.0) ∙ sym (ap length c.hold.ensures) ∙ c.hold.array_long in
    let taken : Consumes (coming c.loop-len.rest c.loop-len.buf (g.R.Read.remaining c.loop-len.from)) (coming next.1 c.match-fetched_byte.buf (g.R.Read.remaining c.match-fetched_byte.from)) (next.0 ∷ []) =
    elim c.match-fetched_byte.branch [
      | in-Some w ↦ rw (w.byte-is, w.buf-is, w.from-is) (w.in-Some.ensures (g.R.Read.remaining c.loop-len.from))
      | in-None+in-Ok-Some w ↦ rw (w.byte-is, w.buf-is, w.from-is) (rw w.in-Ok-Some.field-0-is at w.in-Ok-Some.ensures)
    ] in (
      so_far.0 ++ next.0 ∷ [],
      rw c.hold.ensures (one_more c.loop-len.len c.loop-len.last next.0 c.loop-len.line so_far.0 room c.if-byte-eq10.false so_far.1),
      Consumes-trans _ _ _ so_far.0 (next.0 ∷ []) so_far.2 taken,
    )
