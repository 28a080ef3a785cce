use Rattle.formulas.proofs.Lines.{gaps_by_formula}
use Rattle.formulas.proofs.gap_law.Goals as goal

pub returns : goal.returns
returns c = gaps_by_formula
