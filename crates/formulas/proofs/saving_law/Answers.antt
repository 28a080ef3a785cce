use Rattle.formulas.proofs.Saving.{saving_not_below, nobody_worse_off}
use Rattle.formulas.proofs.saving_law.Goals as goal

pub returns : goal.returns
returns c = record { saving = saving_not_below; members = nobody_worse_off }
