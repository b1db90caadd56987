use Rattle.std.proofs.Common.{rules, ℕ, ◌≡◌, ◌+◌, ◌-◌, ◌≤◌, List, ◌++◌, length, take, drop, arith, ap, sym, ◌∙◌, subst, drop_at, length-take-le}
use Rattle.std.proofs.Math.Seq.{take-add, take-append-le}
use Rattle.std.proofs.lemmas.Slice.{take-put_mid_below}
use Rattle.std.specs.Io.KnownBytes.{Consumes}
use Rattle.std.proofs.KnownBytes.{Consumes-trans}
use borrow.Rule.Slice.PartMut.{put_mid, post_of}
use Rattle.input.proofs.read_full.Goals as goal

-- the front grows by what was read behind it
take_grown : (a k n : ℕ) (xs ys : List ℕ) → a ≤ length xs → n ≤ length ys → take a xs ++ take n ys ≡ take (a + n) (put_mid a k xs ys)
take_grown a k n xs ys within fits =
    let behind : take n (drop a (put_mid a k xs ys)) ≡ take n ys = ap (take n) (drop_at (take a xs) (ys ++ post_of a k xs) a (length-take-le a xs within)) ∙ take-append-le n ys (post_of a k xs) fits in
    let front : take a (put_mid a k xs ys) ≡ take a xs = take-put_mid_below a k xs ys a (omega arith) within in
    sym (take-add a n (put_mid a k xs ys) ∙ ap (λ l. l ++ take n (drop a (put_mid a k xs ys))) front ∙ ap (λ l. take a xs ++ l) behind)

pub loop-done-preserved : goal.loop-done-preserved
loop-done-preserved g c =
    let done = c.loop-done.done in
    let room = length c.loop-done.buf - done in
    record {
      within = search rules;
      bytes = subst (Consumes _ _) (take_grown done room c.in-Ok.n c.loop-done.buf c.read.new.buf c.loop-done.invariant.within c.in-Ok.ensures.bound.0)
          (Consumes-trans _ _ _ _ _ c.loop-done.invariant.bytes c.in-Ok.ensures.bytes.0);
    }
