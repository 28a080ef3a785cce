-- What is found before anything is written.
use Rattle.std.specs.Prelude.{◌≡◌, ℕ, List, ℤ, Ok, Err, Result}
use Rattle.faults.specs.declared.fault.Fault.{Fault}
use Rattle.faults.specs.Asks.{Met, Refused}
use Rattle.sharing.specs.declared.division.Division.{Division}
use Rattle.sharing.specs.Shared.{to_share}

-- all that is asked holds, and d is the division of s by the weights
pub record Admits (s : ℤ) (ws : List ℕ) (places : ℕ) (d : Division) : Type 0 where
  pub met : Met (to_share s ws places)
  pub amount_is : d.amount ≡ s
  pub weights_are : d.weights.now ≡ ws

-- the division, or the fault of the first ask that does not hold
abbrev pub Admitted : ℤ → List ℕ → ℕ → Result Division Fault → Type 0
Admitted s ws places (Ok d) = Admits s ws places d
Admitted s ws places (Err f) = Refused (to_share s ws places) f
