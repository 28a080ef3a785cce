use Rattle.std.proofs.Common.{◌≡◌, ℕ, ◌<◌, get_or, pos}
use Rattle.sharing.specs.Rules.{remainder}
use Rattle.sharing.proofs.rule_l.write_remainders.Given as goal

abbrev pub invariant-loop-k : goal.invariant-loop-k
invariant-loop-k l = (j : ℕ) → j < l.k → get_or l.out j (pos 0) ≡ pos (remainder l.division.amount l.division.weights.now j)
