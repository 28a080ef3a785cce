use Rattle.std.proofs.Common.{refl}
use Rattle.sharing.specs.Rules.{reached, rounded_down, remainder, left_over}
use Rattle.sharing.proofs.fair.examples_stand.Goals as goal

pub returns : goal.returns
unfolding reached rounded_down remainder left_over
returns c = record { value = record { is_seven_r = refl; is_seven_l = refl; is_half_r = refl; is_half_l = refl } }
