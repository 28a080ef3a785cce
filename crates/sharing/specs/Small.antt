-- Why the numbers that are shared by fit 64 bits, for one weight out of a sum.
use Rattle.std.specs.Prelude.{◌≡◌, ℕ, ◌*◌, ◌≤◌, List, ℤ, pos, ◌*ℤ◌, FitsSigned, sum, slice_index, unsigned_abs}
use Rattle.std.proofs.Common.{arith, mul-le-mul_left, ◌∙◌, ap, ap₂, to_z, of_z}
use Rattle.std.proofs.lemmas.Int.{ints, to_z-of_z, to_z_pos, unsigned_abs-mul}
use Rattle.std.specs.Int.{int_div_euclid, int_rem_euclid, w64}
use Rattle.integers.specs.Floor.{floor_div, floor_mod}
use Rattle.integers.proofs.Floor.{euclid_is_floor, euclid_is_rest, floor_size}
use Rattle.sharing.specs.Rules.{rounded_down}
use Rattle.sharing.specs.Shared.{limit}

-- a weight out of a sum of weights by which S can be shared
pub record Small (s : ℤ) (weight total : ℕ) : Type 0 where
  pub part : weight ≤ total
  pub weighed : total ≤ limit
  pub sized : unsigned_abs s * total ≤ limit

pub product_size : (s : ℤ) (w all : ℕ) → Small s w all → unsigned_abs (s *ℤ pos w) ≤ limit
product_size s w all h = omega (arith, unsigned_abs-mul s (pos w), mul-le-mul_left (unsigned_abs s) h.part)

-- the product as the code has it
pub product_is : (s : ℤ) (w all : ℕ) → FitsSigned w64 s → Small s w all → to_z w64 (of_z w64 s) *ℤ to_z w64 w ≡ s *ℤ pos w
product_is s w all f h = ap₂ ◌*ℤ◌ (to_z-of_z w64 s f) (to_z_pos w64 w (omega arith))

pub product_fits : (s : ℤ) (w all : ℕ) → Small s w all → FitsSigned w64 (s *ℤ pos w)
product_fits s w all h = omega (arith, ints, product_size s w all h)

-- and as it is read again
pub product_read : (s : ℤ) (w all : ℕ) → FitsSigned w64 s → Small s w all → to_z w64 (of_z w64 (to_z w64 (of_z w64 s) *ℤ to_z w64 w)) ≡ s *ℤ pos w
product_read s w all f h = rw (product_is s w all f h) (to_z-of_z w64 _ (product_fits s w all h))

pub total_read : (s : ℤ) (w all : ℕ) → Small s w all → to_z w64 all ≡ pos all
total_read s w all h = to_z_pos w64 all (omega arith)

-- the quotient that the code has
pub quotient_read : (s : ℤ) (w all : ℕ) (r : ℤ) → FitsSigned w64 s → FitsSigned w64 r → Small s w all → r ≡ int_div_euclid (to_z w64 (of_z w64 (to_z w64 (of_z w64 s) *ℤ to_z w64 w))) (to_z w64 all) → to_z w64 (of_z w64 r) ≡ floor_div (s *ℤ pos w) all
quotient_read s w all r f g h e =
    to_z-of_z w64 r g ∙ e ∙ ap₂ int_div_euclid (product_read s w all f h) (total_read s w all h) ∙ euclid_is_floor (s *ℤ pos w) all

-- the remainder, as the code has it and by its size
pub rest_read : (s : ℤ) (w all : ℕ) (r : ℤ) → FitsSigned w64 s → FitsSigned w64 r → Small s w all → r ≡ int_rem_euclid (to_z w64 (of_z w64 (to_z w64 (of_z w64 s) *ℤ to_z w64 w))) (to_z w64 all) → to_z w64 (of_z w64 r) ≡ pos (floor_mod (s *ℤ pos w) all)
rest_read s w all r f g h e =
    to_z-of_z w64 r g ∙ e ∙ ap₂ int_rem_euclid (product_read s w all f h) (total_read s w all h) ∙ euclid_is_rest (s *ℤ pos w) all

pub remainder_read : (s : ℤ) (w all : ℕ) (r : ℤ) → FitsSigned w64 s → FitsSigned w64 r → Small s w all → r ≡ int_rem_euclid (to_z w64 (of_z w64 (to_z w64 (of_z w64 s) *ℤ to_z w64 w))) (to_z w64 all) → unsigned_abs (to_z w64 (of_z w64 r)) ≡ floor_mod (s *ℤ pos w) all
remainder_read s w all r f g h e = ap unsigned_abs (rest_read s w all r f g h e)

-- a part rounded down is within the limit
pub low_size : (s : ℤ) (ws : List ℕ) (k all : ℕ) → Small s (slice_index ws k) all → unsigned_abs (rounded_down s ws k) ≤ limit
unfolding rounded_down
low_size s ws k all m = omega (arith, floor_size (s *ℤ pos (slice_index ws k)) (sum ws), product_size s (slice_index ws k) all m)
