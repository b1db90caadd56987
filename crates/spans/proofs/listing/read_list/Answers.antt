use Rattle.std.proofs.Common.{◌≡◌, Ok, ap, ◌∙◌, arith, rules}
use Rattle.cursor.proofs.Passed.{told_at_passed}
use Rattle.spans.proofs.Kept.{kept, kept_start, many_answer, refused_answer}
use Rattle.spans.proofs.listing.read_list.Goals as goal

-- nothing is read yet
pub loop-n-init : goal.loop-n-init
loop-n-init g c = record { callable = search rules; kept = λ read same. kept_start _ _ }

-- one span more
pub loop-n-preserved : goal.loop-n-preserved
loop-n-preserved g c = record {
  callable = search rules;
  kept = λ read same.
      let inv = c.loop-n.invariant.kept read same in
      let told = same _ _ _ c.item.ensures in
      search (kept, rules);
}

pub returns-in_err-span-clause-answer : goal.returns-in_err-span-clause-answer
returns-in_err-span-clause-answer g c =
    λ read same. let inv = c.loop-n.invariant.kept read same in
    let told = same _ _ _ c.item.ensures in
    told_at_passed _ _ _ c.from_residual.ensures.1 (refused_answer _ _ _ _ _ told _ _ _ _ inv _ c.in_err-span.was)

pub returns-in_err-span-clause-written : goal.returns-in_err-span-clause-written
returns-in_err-span-clause-written g c =
    λ read same. let inv = c.loop-n.invariant.kept read same in
    let told = same _ _ _ c.item.ensures in
    search (kept, rules)

pub returns-in-End-clause-answer : goal.returns-in-End-clause-answer
returns-in-End-clause-answer g c =
    λ read same. let inv = c.loop-n.invariant.kept read same in
    let told = same _ _ _ c.item.ensures in
    search (kept, rules)

pub returns-in-End-clause-written : goal.returns-in-End-clause-written
returns-in-End-clause-written g c =
    λ read same. let inv = c.loop-n.invariant.kept read same in
    let told = same _ _ _ c.item.ensures in
    search (kept, rules)

pub returns-in_err-span-2-clause-answer : goal.returns-in_err-span-2-clause-answer
returns-in_err-span-2-clause-answer g c =
    λ read same. let all : c.loop-n.n ≡ 32 = omega arith in
    let inv = rw all at (c.loop-n.invariant.kept read same) in
    let told = same _ _ _ c.item-2.ensures in
    told_at_passed _ _ _ c.from_residual-in_err-span-2.ensures.1 (refused_answer _ _ _ _ _ told _ _ _ _ inv _ c.in_err-span-2.was)

pub returns-in_err-span-2-clause-written : goal.returns-in_err-span-2-clause-written
returns-in_err-span-2-clause-written g c =
    λ read same. let all : c.loop-n.n ≡ 32 = omega arith in
    let inv = rw all at (c.loop-n.invariant.kept read same) in
    let told = same _ _ _ c.item-2.ensures in
    search (kept, rules)

pub returns-in-One-2-clause-answer : goal.returns-in-One-2-clause-answer
returns-in-One-2-clause-answer g c =
    λ read same. let all : c.loop-n.n ≡ 32 = omega arith in
    let inv = rw all at (c.loop-n.invariant.kept read same) in
    let told = same _ _ _ c.item-2.ensures in
    many_answer _ _ _ _ _ told _ _ _ _ inv _ _ (omega arith) (c.in_ok-span-2.was ∙ ap Ok c.in-One-2.is)

pub returns-in-One-2-clause-written : goal.returns-in-One-2-clause-written
returns-in-One-2-clause-written g c =
    λ read same. let all : c.loop-n.n ≡ 32 = omega arith in
    let inv = rw all at (c.loop-n.invariant.kept read same) in
    let told = same _ _ _ c.item-2.ensures in
    search (kept, rules)

pub returns-clause-answer : goal.returns-clause-answer
returns-clause-answer g c =
    λ read same. let all : c.loop-n.n ≡ 32 = omega arith in
    let inv = rw all at (c.loop-n.invariant.kept read same) in
    let told = same _ _ _ c.item-2.ensures in
    search (kept, rules)

pub returns-clause-written : goal.returns-clause-written
returns-clause-written g c =
    λ read same. let all : c.loop-n.n ≡ 32 = omega arith in
    let inv = rw all at (c.loop-n.invariant.kept read same) in
    let told = same _ _ _ c.item-2.ensures in
    search (kept, rules)
