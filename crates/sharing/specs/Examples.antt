-- Sums that were worked by hand.
use Rattle.std.specs.Prelude.{◌≡◌, List, [], ◌∷◌, ℤ, pos, negsuc}
use Rattle.sharing.specs.Rules.{parts_r, parts_l}

-- the parts of −7 by 1, 1, 1 under R and L, and those of 180 by 30, 50 (negsuc 6 is −7)
pub record Examples (seven-R seven-L half-R half-L : List ℤ) : Type 0 where
  pub is_seven_r : seven-R ≡ parts_r (negsuc 6) (1 ∷ 1 ∷ 1 ∷ [])
  pub is_seven_l : seven-L ≡ parts_l (negsuc 6) (1 ∷ 1 ∷ 1 ∷ [])
  pub is_half_r : half-R ≡ parts_r (pos 180) (30 ∷ 50 ∷ [])
  pub is_half_l : half-L ≡ parts_l (pos 180) (30 ∷ 50 ∷ [])
