use Rattle.formulas.proofs.Prices.{prices_by_rule}
use Rattle.formulas.proofs.price_law.Goals as goal

pub returns : goal.returns
returns c = prices_by_rule
