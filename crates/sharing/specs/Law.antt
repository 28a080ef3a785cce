-- What every sharing rule keeps. S is shared by the weights ws, whose sum is W.
use Rattle.std.specs.Prelude.{◌≡◌, ℕ, ◌<◌, ◌⊎◌, List, length, ℤ, pos, ◌+ℤ◌, ◌*ℤ◌, sum, slice_index, slice_index_or}
use Rattle.integers.specs.Floor.{floor_div, floor_mod}
use Rattle.integers.specs.Sums.{int_sum}

-- p is z / d rounded up: one more than rounded down, where the division leaves a remainder
pub record RoundedUp (z : ℤ) (d : ℕ) (p : ℤ) : Type 0 where
  pub one_more : p ≡ floor_div z d +ℤ pos 1
  pub remains : 0 < floor_mod z d

-- p is z / d rounded down, or rounded up
abbrev pub Rounded : ℤ → ℕ → ℤ → Type 0
Rounded z d p = (p ≡ floor_div z d) ⊎ RoundedUp z d p

-- the parts that a rule gives of any S by any ws
pub record SharingLaw (parts : ℤ → List ℕ → List ℤ) : Type 0 where
  -- there is a part for each weight
  pub one_each : (s : ℤ) (ws : List ℕ) → length (parts s ws) ≡ length ws
  -- where W is above 0, the parts add up to S
  pub whole : (s : ℤ) (ws : List ℕ) → 0 < sum ws → int_sum (parts s ws) ≡ s
  -- and each is S × its weight / W, rounded down or up
  pub near : (s : ℤ) (ws : List ℕ) (k : ℕ) → 0 < sum ws → k < length ws → Rounded (s *ℤ pos (slice_index ws k)) (sum ws) (slice_index_or (parts s ws) k (pos 0))
  -- where W is 0, every part is nil
  pub nothing : (s : ℤ) (ws : List ℕ) (k : ℕ) → sum ws ≡ 0 → slice_index_or (parts s ws) k (pos 0) ≡ pos 0
