-- What is asked of market prices.
use Rattle.std.specs.Prelude.{ℕ, ◌≤◌, List, length, slice_index}
use Rattle.faults.specs.declared.fault.Fault.{Fault}
use Rattle.faults.specs.declared.fault.Fault.TheVariants.{PriceAt}
use Rattle.faults.specs.Asks.{Ask, ask_each}

-- each market price is at most 500,000
abbrev pub ask_prices : List ℕ → Ask Fault
ask_prices prices = ask_each PriceAt (length prices) (λ k. slice_index prices k ≤ 500_000)
