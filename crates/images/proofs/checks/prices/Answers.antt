use Rattle.std.proofs.Common.{rules}
use Rattle.std.proofs.lemmas.List.FromFn.{fill_by_all}
use Rattle.images.specs.Reading.{price_at, prices_in}
use Rattle.images.proofs.checks.prices.Goals as goal

pub returns : goal.returns
unfolding prices_in
returns c = record {
  value = fill_by_all (price_at c.args.bytes.now) c.from_fn.result 24 0 c.from_fn.ensures.items.long (λ k h. let r = c.from_fn.ensures.items.at k 0 h in search rules);
}
