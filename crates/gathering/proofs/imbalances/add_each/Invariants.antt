use Rattle.std.proofs.Common.{◌≡◌, ℕ, ◌<◌, ◌≤◌, get_or, pos, ◌+ℤ◌}
use Rattle.gathering.proofs.imbalances.add_each.Given as goal

-- the cells so far have gained, and the others wait
abbrev pub invariant-loop-cell : goal.invariant-loop-cell
invariant-loop-cell l = record {
  gained : (k : ℕ) → k < l.cell-index → get_or l.cells k (pos 0) ≡ get_or l.fn.cells k (pos 0) +ℤ l.fn.kwh;
  same : (k : ℕ) → l.cell-index ≤ k → get_or l.cells k (pos 0) ≡ get_or l.fn.cells k (pos 0);
}
