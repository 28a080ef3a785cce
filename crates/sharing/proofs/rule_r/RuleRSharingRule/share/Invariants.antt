use Rattle.std.proofs.Common.{◌≡◌, ℕ, ◌<◌, get_or, take, pos, sum}
use Rattle.sharing.specs.Rules.{reached, part_r}
use Rattle.sharing.proofs.rule_r.RuleRSharingRule.share.Given as goal

-- the weights so far, what they have together, and a part for each
abbrev pub invariant-loop-k : goal.invariant-loop-k
invariant-loop-k l = (l.running ≡ sum (take l.k l.weights)) × (l.before ≡ reached l.amount l.weights l.k) × ((j : ℕ) → j < l.k → get_or l.out j (pos 0) ≡ part_r l.amount l.weights j)
