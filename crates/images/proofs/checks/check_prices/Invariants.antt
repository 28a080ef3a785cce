use Rattle.std.proofs.Common.{ℕ, ◌<◌, ◌≤◌}
use Rattle.images.specs.Reading.{price_at}
use Rattle.images.proofs.checks.check_prices.Given as goal

abbrev pub invariant-loop-hour : goal.invariant-loop-hour
invariant-loop-hour l = (k : ℕ) → k < l.hour → price_at l.bytes k ≤ 500000
