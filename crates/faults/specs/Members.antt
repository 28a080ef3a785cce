-- How many members a day or a set has.
use Rattle.std.specs.Prelude.{ℕ, ◌<◌, ◌≤◌}
use Rattle.faults.specs.declared.fault.Fault.{Fault}
use Rattle.faults.specs.declared.fault.Fault.TheVariants.{MemberCount}
use Rattle.faults.specs.Asks.{Ask, ask}

-- 1 to 64 members
pub record Members (n : ℕ) : Type 0 where
  pub some : 0 < n
  pub few : n ≤ 64

abbrev pub ask_count : ℕ → Ask Fault
ask_count n = ask MemberCount (Members n)
