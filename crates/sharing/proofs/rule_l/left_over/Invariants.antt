use Rattle.std.proofs.Common.{◌≡◌, ◌+◌, ◌*◌, ◌<◌, ◌≤◌, take, nat_abs, sum_by}
use Rattle.sharing.proofs.rule_l.left_over.Given as goal

-- the totals that the remainders so far make up, and what is over
abbrev pub invariant-loop-r : goal.invariant-loop-r
invariant-loop-r l = (l.whole * l.total + l.rest ≡ sum_by nat_abs (take l.r-index l.remainders)) × (l.rest < l.total) × (l.whole ≤ l.r-index)
