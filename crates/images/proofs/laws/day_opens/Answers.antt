use Rattle.images.proofs.DayAndImage.{day_opens}
use Rattle.images.proofs.laws.day_opens.Goals as goal

pub returns : goal.returns
returns c = record { law = day_opens }
