use Rattle.formulas.proofs.Lines.{lines_shared}
use Rattle.formulas.proofs.lines_law.Goals as goal

pub returns : goal.returns
returns c = lines_shared
