-- How rule L's code finds the members that get one more: in a list of the remainders it marks each of them with -1.
use Rattle.std.specs.Prelude.{◌≡◌, ℕ, ◌<◌, cond, List, length, ℤ, pos, negsuc, ◌+ℤ◌, ◌≤ℤ◌, ◌<ℤ◌, int_lt, nat_lt, slice_index_or, unsigned_abs}
use Rattle.sharing.specs.Rules.{rounded_down, remainder, rank}

-- xs has the remainder of each member
abbrev pub RemaindersOf : ℤ → List ℕ → List ℤ → Type 0
RemaindersOf s ws xs = (k : ℕ) → k < length xs → slice_index_or xs k (pos 0) ≡ pos (remainder s ws k)

-- xs has numbers from 0
abbrev pub FromNil : List ℤ → Type 0
FromNil xs = (k : ℕ) → k < length xs → pos 0 ≤ℤ slice_index_or xs k (pos 0)

-- k is the lowest place of the largest number
pub record FirstLargest (xs : List ℤ) (k : ℕ) : Type 0 where
  pub within : k < length xs
  pub largest : (j : ℕ) → j < length xs → slice_index_or xs j (pos 0) ≤ℤ slice_index_or xs k (pos 0)
  pub first : (j : ℕ) → j < k → slice_index_or xs j (pos 0) <ℤ slice_index_or xs k (pos 0)

-- the remainders that xs has, by place
abbrev pub held : List ℤ → ℕ → ℕ
held xs k = unsigned_abs (slice_index_or xs k (pos 0))

-- the mark of k, where the first n members are marked; its remainder where it is not among them
abbrev pub mark : List ℤ → ℕ → ℕ → ℤ
mark xs n k = cond (nat_lt (rank (held xs) (length xs) k) n) (negsuc 0) (slice_index_or xs k (pos 0))

-- ys is xs with the first n members marked
abbrev pub Marked : List ℤ → ℕ → List ℤ → Type 0
Marked xs n ys = (k : ℕ) → k < length xs → slice_index_or ys k (pos 0) ≡ mark xs n k

-- a part is rounded down, and one more where the member is marked
abbrev pub topped : ℤ → List ℕ → List ℤ → ℕ → ℤ
topped s ws marks k = rounded_down s ws k +ℤ pos (cond (int_lt (slice_index_or marks k (pos 0)) (pos 0)) 1 0)

-- xs has the parts by these marks
abbrev pub Topped : ℤ → List ℕ → List ℤ → List ℤ → Type 0
Topped s ws marks xs = (k : ℕ) → k < length xs → slice_index_or xs k (pos 0) ≡ topped s ws marks k
