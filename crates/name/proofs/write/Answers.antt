use Rattle.name.proofs.Laws.{normals}
use Rattle.name.proofs.write.Goals as goal
use Rattle.name.proofs.write.Goals.{then-not-merges_at, else-not-merges_at}

pub loop-i-preserved : goal.loop-i-preserved
loop-i-preserved c =
    elim c.if-not-merges_at.branch [
      | then-not-merges_at w ↦ rw (w.out-is, w.n-is) (search normals)
      | else-not-merges_at w ↦ rw (w.out-is, w.n-is) (search normals)
    ]
