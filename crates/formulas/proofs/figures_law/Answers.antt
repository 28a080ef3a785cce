use Rattle.formulas.proofs.Figures.{figures_fit}
use Rattle.formulas.proofs.figures_law.Goals as goal

pub returns : goal.returns
returns c = figures_fit
