-- What the code has for an exact share, where the total is the sum of weights that can be shared by.
use Rattle.std.specs.Prelude.{◌≡◌, ℕ, ◌*◌, ◌<◌, ◌≤◌, List, ℤ, pos, ◌*ℤ◌, FitsSigned, unsigned_abs}
use Rattle.std.proofs.Common.{arith, le-mul_of_pos_right, ap, to_z, of_z}
use Rattle.std.proofs.lemmas.Int.{ints}
use Rattle.std.specs.Int.{int_div_euclid, int_rem_euclid, w64}
use Rattle.integers.specs.Floor.{floor_div, floor_mod}
use Rattle.integers.proofs.Floor.{floor_size}
use Rattle.sharing.specs.Inside.{Weighed}
use Rattle.sharing.specs.Shared.{limit}
use Rattle.sharing.specs.Small.{Small, product_size as size_read, quotient_read as whole_read, rest_read as left_read}

-- w is a weight out of a sum by which s can be shared
module _ (s : ℤ) (ws : List ℕ) (w all : ℕ) (m : Weighed s ws all) (part : w ≤ all) where
  pub small : Small s w all
  small = record {
    part = part;
    weighed = omega (arith, m.sum_is, m.shareable.weighed);
    sized = omega (arith, m.shareable.sized, ap (λ (n : ℕ). unsigned_abs s * n) m.sum_is);
  }

  pub product_size : unsigned_abs (s *ℤ pos w) ≤ limit
  product_size = size_read s w all small

  module _ (some : 0 < all) where
    amount_fits : FitsSigned w64 s
    amount_fits = omega (arith, ints, le-mul_of_pos_right (unsigned_abs s) some, small.sized)

    -- the quotient that the code has, and the remainder
    pub quotient_read : (r : ℤ) → FitsSigned w64 r → r ≡ int_div_euclid (to_z w64 (of_z w64 (to_z w64 (of_z w64 s) *ℤ to_z w64 w))) (to_z w64 all) → to_z w64 (of_z w64 r) ≡ floor_div (s *ℤ pos w) all
    quotient_read r g e = whole_read s w all r amount_fits g small e

    pub rest_read : (r : ℤ) → FitsSigned w64 r → r ≡ int_rem_euclid (to_z w64 (of_z w64 (to_z w64 (of_z w64 s) *ℤ to_z w64 w))) (to_z w64 all) → to_z w64 (of_z w64 r) ≡ pos (floor_mod (s *ℤ pos w) all)
    rest_read r g e = left_read s w all r amount_fits g small e

    pub quotient_size : (r : ℤ) → r ≡ floor_div (s *ℤ pos w) all → unsigned_abs r ≤ limit
    quotient_size r e = omega (arith, ap unsigned_abs e, floor_size (s *ℤ pos w) all, product_size)
