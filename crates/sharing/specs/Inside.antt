-- What is known of the numbers that are shared by.
use Rattle.std.specs.Prelude.{◌≡◌, ℕ, List, ℤ, sum}
use Rattle.sharing.specs.Shared.{Shareable}

-- total is the sum of weights by which S can be shared
pub record Weighed (s : ℤ) (ws : List ℕ) (total : ℕ) : Type 0 where
  pub sum_is : total ≡ sum ws
  pub shareable : Shareable s ws
