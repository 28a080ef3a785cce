use Rattle.std.proofs.Common.{◌≡◌, ℕ, ◌<◌, ◌≤◌, get_or, pos}
use Rattle.sharing.specs.Marks.{topped}
use Rattle.sharing.proofs.rule_l.write_parts.Given as goal

-- the parts so far, and the marks from there on
abbrev pub invariant-loop-k : goal.invariant-loop-k
invariant-loop-k l = ((j : ℕ) → j < l.k → get_or l.out j (pos 0) ≡ topped l.division.amount l.division.weights.now l.initial.out j) × ((j : ℕ) → l.k ≤ j → get_or l.out j (pos 0) ≡ get_or l.initial.out j (pos 0))
