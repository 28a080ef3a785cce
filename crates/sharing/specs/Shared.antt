-- What a sharing asks, what it answers and what it leaves written.
use Rattle.std.specs.Prelude.{◌≡◌, ℕ, ◌*◌, ◌≤◌, List, [], ◌∷◌, length, ℤ, Ok, Err, sum, Result, unsigned_abs}
use Rattle.faults.specs.declared.fault.Fault.{Fault}
use Rattle.faults.specs.declared.fault.Fault.TheVariants.{PartCount, LargeShare}
use Rattle.faults.specs.Asks.{Ask, ask, Met, Refused}

-- 9 × 10^18
abbrev pub limit : ℕ
limit = 9_000_000_000_000_000_000

-- the sum of the weights, and the size of S times it, are within the limit
pub record Shareable (s : ℤ) (ws : List ℕ) : Type 0 where
  pub weighed : sum ws ≤ limit
  pub sized : unsigned_abs s * sum ws ≤ limit

-- what is asked, in this order: a weight for each part, and numbers within the limit
abbrev pub to_share : ℤ → List ℕ → ℕ → List (Ask Fault)
to_share s ws places = ask PartCount (length ws ≡ places) ∷ ask LargeShare (Shareable s ws) ∷ []

-- all that is asked held, and the rule's parts are written
pub record Writes (parts : ℤ → List ℕ → List ℤ) (s : ℤ) (ws : List ℕ) (before written : List ℤ) : Type 0 where
  pub met : Met (to_share s ws (length before))
  pub after : written ≡ parts s ws

-- the first ask that does not hold gave the fault, and nothing is written
pub record Refuses (s : ℤ) (ws : List ℕ) (before : List ℤ) (f : Fault) (written : List ℤ) : Type 0 where
  pub refused : Refused (to_share s ws (length before)) f
  pub same : written ≡ before

-- the rule's parts, S, the weights, the places before, the answer, the places after
abbrev pub Shared : (ℤ → List ℕ → List ℤ) → ℤ → List ℕ → List ℤ → Result Unit Fault → List ℤ → Type 0
Shared parts s ws before (Ok u) after = Writes parts s ws before after
Shared parts s ws before (Err f) after = Refuses s ws before f after
