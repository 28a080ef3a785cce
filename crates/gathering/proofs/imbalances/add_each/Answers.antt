use Rattle.std.proofs.Common.{arith}
use Rattle.std.proofs.lemmas.Grind.{common_steps}
use Rattle.gathering.proofs.imbalances.add_each.Goals as goal

pub loop-cell-preserved : goal.loop-cell-preserved
loop-cell-preserved c =
    let b = c.requires.1 c.loop-cell.cell-index in
    let s = c.loop-cell.invariant.same c.loop-cell.cell-index (omega arith) in
    grind (arith, common_steps)
