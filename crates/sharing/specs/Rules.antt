-- The two rules, by the parts that they give. S is shared by the weights ws, whose sum is W.
use Rattle.std.specs.Prelude.{ℕ, ◌+◌, Bool, cond, ◌&&◌, ◌||◌, List, map, length, take, ℤ, pos, ◌+ℤ◌, ◌-ℤ◌, ◌*ℤ◌, sum, count_by, ◌==◌, nat_lt, slice_index, unsigned_abs}
use Rattle.std.specs.List.{range_with_len}
use Rattle.integers.specs.Floor.{floor_div, floor_mod}
use Rattle.integers.specs.Sums.{int_sum_by}

-- the members, 0 and up, one for each weight
abbrev pub members : List ℕ → List ℕ
members ws = range_with_len 0 (length ws)

-- ---- rule R
-- S × C / W rounded down, where C is the running sum of the first k weights
unfoldable pub reached : ℤ → List ℕ → ℕ → ℤ
reached s ws k = floor_div (s *ℤ pos (sum (take k ws))) (sum ws)

-- a part is what is reached with the member, less what is reached with the member before
abbrev pub part_r : ℤ → List ℕ → ℕ → ℤ
part_r s ws k = reached s ws (k + 1) -ℤ reached s ws k

-- rule R's parts
abbrev pub parts_r : ℤ → List ℕ → List ℤ
parts_r s ws = map (part_r s ws) (members ws)

-- ---- rule L
-- S × the member's weight / W, rounded down
unfoldable pub rounded_down : ℤ → List ℕ → ℕ → ℤ
rounded_down s ws k = floor_div (s *ℤ pos (slice_index ws k)) (sum ws)

-- what that division leaves
unfoldable pub remainder : ℤ → List ℕ → ℕ → ℕ
remainder s ws k = floor_mod (s *ℤ pos (slice_index ws k)) (sum ws)

-- a member j of remainder x comes before a member k of remainder y: x is larger, or they are equal and j is the lower member
abbrev pub outranks : ℕ → ℕ → ℕ → ℕ → Bool
outranks x j y k = nat_lt y x || (x == y && nat_lt j k)

-- j comes before k, where r has the remainders
abbrev pub ahead : (ℕ → ℕ) → ℕ → ℕ → Bool
ahead r j k = outranks (r j) j (r k) k

-- how many of the members below n come before k
abbrev pub rank : (ℕ → ℕ) → ℕ → ℕ → ℕ
rank r n k = count_by (λ j. ahead r j k) (range_with_len 0 n)

-- what the parts rounded down leave of S; nothing where W is 0
unfoldable pub left_over : ℤ → List ℕ → ℕ
left_over s ws = cond (nat_lt 0 (sum ws)) (unsigned_abs (s -ℤ int_sum_by (rounded_down s ws) (members ws))) 0

-- a part is rounded down, and one more where fewer members come before it than are left over
abbrev pub part_l : ℤ → List ℕ → ℕ → ℤ
part_l s ws k = rounded_down s ws k +ℤ pos (cond (nat_lt (rank (remainder s ws) (length ws) k) (left_over s ws)) 1 0)

-- rule L's parts
abbrev pub parts_l : ℤ → List ℕ → List ℤ
parts_l s ws = map (part_l s ws) (members ws)
