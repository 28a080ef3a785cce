-- What a caller of any rule gets. S is shared by the weights ws, whose sum is W.
use Rattle.std.specs.Prelude.{◌≡◌, ℕ, ◌<◌, List, length, ℤ, pos, ◌*ℤ◌, Ok, Err, sum, Result, slice_index, slice_index_or}
use Rattle.faults.specs.declared.fault.Fault.{Fault}
use Rattle.faults.specs.Asks.{Met}
use Rattle.integers.specs.Sums.{int_sum}
use Rattle.sharing.specs.Law.{Rounded}
use Rattle.sharing.specs.Shared.{to_share, Refuses}

-- all that is asked held, and the parts written keep the sharing law
pub record Fair (s : ℤ) (ws : List ℕ) (before written : List ℤ) : Type 0 where
  pub met : Met (to_share s ws (length before))
  pub one_each : length written ≡ length ws
  pub whole : 0 < sum ws → int_sum written ≡ s
  pub near : (k : ℕ) → 0 < sum ws → k < length ws → Rounded (s *ℤ pos (slice_index ws k)) (sum ws) (slice_index_or written k (pos 0))
  pub nothing : (k : ℕ) → sum ws ≡ 0 → slice_index_or written k (pos 0) ≡ pos 0

-- S, the weights, the places before, the answer, the places after
abbrev pub FairAnswer : ℤ → List ℕ → List ℤ → Result Unit Fault → List ℤ → Type 0
FairAnswer s ws before (Ok u) after = Fair s ws before after
FairAnswer s ws before (Err f) after = Refuses s ws before f after
