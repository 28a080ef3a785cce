-- The check of an image has one answer.
use Rattle.std.proofs.Common.{ℕ, ◌+◌, ◌*◌, ◌⊎◌, List, length, inl, inr, ⊎_elim}
use Rattle.faults.specs.declared.fault.Fault.TheVariants.{ImageFrame, ImagePriceAt, ImagePostingAt}
use Rattle.faults.proofs.Asks.{AllDecided, decided_ask, decided_each, decided_within, eq_or_not, le_or_not}
use Rattle.postings.specs.Making.{to_make}
use Rattle.postings.proofs.Lawful.{making_decided}
use Rattle.images.specs.Reading.{u16_at, price_at, count_in, row_at}
use Rattle.images.specs.Checking.{Framed, to_check}

framed_or_not : (bytes : List ℕ) → Framed bytes ⊎ (Framed bytes → ⊥)
framed_or_not bytes =
    ⊎_elim (λ p. ⊎_elim (λ f. ⊎_elim (λ l. inl (record { priced = p; few = f; long = l })) (λ no. inr (λ m. no m.long)) (eq_or_not (length bytes) (100 + 13 * count_in bytes))) (λ no. inr (λ m. no m.few)) (le_or_not (count_in bytes) 2048))
    (λ no. inr (λ m. no m.priced)) (eq_or_not (u16_at bytes 0) 24)

pub checking_decided : (bytes : List ℕ) → AllDecided (to_check bytes)
checking_decided bytes = (
  decided_ask ImageFrame _ (framed_or_not bytes),
  (
    decided_each ImagePriceAt 24 _ (λ k. le_or_not (price_at bytes k) 500000),
    (decided_within ImagePostingAt (count_in bytes) (λ k. to_make (row_at bytes k)) (λ k. making_decided (row_at bytes k)), tt),
  ),
)
