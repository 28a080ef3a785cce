-- What rounding does to a sum.
use Rattle.std.specs.Prelude.{◌≡◌, ℕ, ◌+◌, ◌<◌, ◌≤◌, ℤ, pos, ◌+ℤ◌, ◌-ℤ◌, ◌*ℤ◌, ◌<ℤ◌, unsigned_abs}
use Rattle.std.proofs.Common.{arith, ap, inl, inr, ⊎_elim}
use Rattle.std.proofs.lemmas.Int.{ints}
use Rattle.std.proofs.lemmas.Bool.{cases_lt}
use Rattle.integers.specs.Floor.{floor_div, floor_mod}
use Rattle.integers.proofs.Order.{le_or_lt}
use Rattle.integers.proofs.Floor.{floor_rest, floor_plus_below, floor_plus_above, floor_plus_whole, floor_size}
use Rattle.sharing.specs.Law.{Rounded}

-- the sum of two is rounded down to more than the two alone only if something was dropped of the second
rest_left : (z y : ℤ) (d : ℕ) → 0 < d → (floor_div z d +ℤ floor_div y d) <ℤ (floor_div (z +ℤ y) d) → 0 < floor_mod y d
rest_left z y d p h = ⊎_elim (λ k. k) (λ k. absurd (omega (arith, ints, whole k, floor_plus_whole z (floor_div y d) d p))) (cases_lt 0 (floor_mod y d))
  where
    whole : floor_mod y d ≤ 0 → floor_div (z +ℤ y) d ≡ floor_div (z +ℤ floor_div y d *ℤ pos d) d
    whole k = ap (λ (x : ℤ). floor_div (z +ℤ x) d) (omega (arith, ints, floor_rest y d p))

-- the way from z / d to (z + y) / d, both rounded down, is y / d rounded down or up
pub step_rounded : (z y : ℤ) (d : ℕ) → 0 < d → Rounded y d (floor_div (z +ℤ y) d -ℤ floor_div z d)
step_rounded z y d p =
    let lo = floor_plus_below z y d p in
    let hi = floor_plus_above z y d p in
    ⊎_elim (λ k. inl (omega (arith, ints)))
    (λ k. inr (record { one_more = omega (arith, ints); remains = rest_left z y d p k }))
    (le_or_lt (floor_div (z +ℤ y) d) (floor_div z d +ℤ floor_div y d))

-- what is rounded is hardly larger than what it came from
pub rounded_size : (z p : ℤ) (d : ℕ) → Rounded z d p → unsigned_abs p ≤ unsigned_abs z + 1
rounded_size z p d = ⊎_elim (λ e. omega (arith, ints, floor_size z d)) (λ e. omega (arith, ints, floor_size z d, e.one_more))
