-- Sums over those that pass a test.
use Rattle.std.specs.Prelude.{ℕ, Bool, cond, List, ℤ, pos, sum_by}
use Rattle.integers.specs.Sums.{int_sum_by}

-- the sum of f over those of xs that pass the test p: of naturals, and of whole numbers of either sign
abbrev pub sum_where : {X : Type 0} → (X → Bool) → (X → ℕ) → List X → ℕ
sum_where p f xs = sum_by (λ x. cond (p x) (f x) 0) xs

abbrev pub int_sum_where : {X : Type 0} → (X → Bool) → (X → ℤ) → List X → ℤ
int_sum_where p f xs = int_sum_by (λ x. cond (p x) (f x) (pos 0)) xs
