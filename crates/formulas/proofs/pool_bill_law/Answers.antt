use Rattle.formulas.proofs.Clause.{pool_bill_lem}
use Rattle.formulas.proofs.pool_bill_law.Goals as goal

pub returns : goal.returns
returns c = pool_bill_lem
