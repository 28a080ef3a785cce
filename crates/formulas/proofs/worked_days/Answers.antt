use Rattle.formulas.proofs.Examples.{worked}
use Rattle.formulas.proofs.worked_days.Goals as goal

pub returns : goal.returns
returns c = worked
