-- What is known of the numbers that are shared by, and of a part's size.
use Rattle.std.proofs.Common.{ℕ, ◌+◌, ◌<◌, ◌≤◌, List, length, get_or, ℤ, pos, nat_abs, sum, refl, ap, ⊎_elim, arith, w64, SFits}
use Rattle.std.proofs.lemmas.Int.{ints}
use Rattle.std.proofs.lemmas.List.Sums.{get_or-le-sum_by}
use Rattle.std.proofs.lemmas.Bool.{cases_lt}
use Rattle.sharing.specs.Law.{SharingLaw}
use Rattle.sharing.specs.Shared.{Shareable, limit}
use Rattle.sharing.specs.Fitting.{product_size}
use Rattle.sharing.specs.Rounds.{rounded_size}

-- a part is hardly larger than the limit, and fits 64 bits
pub part_fits : (parts : ℤ → List ℕ → List ℤ) → SharingLaw parts → (s : ℤ) (ws : List ℕ) (k : ℕ) → Shareable s ws → k < length ws → SFits w64 (get_or (parts s ws) k (pos 0))
part_fits parts law s ws k m h = omega (arith, ints, size)
  where
    size : nat_abs (get_or (parts s ws) k (pos 0)) ≤ limit + 1
    size =
        ⊎_elim (λ p. omega (arith, rounded_size _ _ (sum ws) (law.near s ws k p h), product_size s ws (get_or ws k 0) (sum ws) (record { sum_is = refl; shareable = m }) (get_or-le-sum_by (λ x. x) ws k 0 h)))
        (λ z. omega (arith, ap nat_abs (law.nothing s ws k (omega arith)))) (cases_lt 0 (sum ws))
