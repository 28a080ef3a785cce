use Rattle.images.proofs.DayAndImage.{image_is}
use Rattle.images.proofs.laws.image_is_its_day.Goals as goal

pub returns : goal.returns
returns c = record { law = image_is }
