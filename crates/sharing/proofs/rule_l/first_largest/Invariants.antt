use Rattle.std.proofs.Common.{◌≡◌, ℕ, ◌<◌, length, get_or, pos, ◌≤ℤ◌, ◌<ℤ◌}
use Rattle.sharing.proofs.rule_l.first_largest.Given as goal

-- the first of the largest numbers so far stands at the place
abbrev pub invariant-loop-k : goal.invariant-loop-k
invariant-loop-k l = record {
  within : l.place < length l.numbers;
  value : get_or l.numbers l.place (pos 0) ≡ l.largest;
  largest : (j : ℕ) → j < l.k → get_or l.numbers j (pos 0) ≤ℤ l.largest;
  first : (j : ℕ) → j < l.place → get_or l.numbers j (pos 0) <ℤ l.largest;
}
