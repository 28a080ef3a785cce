use Rattle.formulas.proofs.Totals.{totals_add_up}
use Rattle.formulas.proofs.totals_law.Goals as goal

pub returns : goal.returns
returns c = totals_add_up
