use Rattle.formulas.proofs.Shareable.{no_sharing_refused}
use Rattle.formulas.proofs.sharing_law.Goals as goal

pub returns : goal.returns
returns c = no_sharing_refused
