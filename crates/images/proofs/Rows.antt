-- The rows of an image by their places.
use Rattle.std.proofs.Common.{◌≡◌, ℕ, ◌<◌, ◌≤◌, true, List, [], length, get_or, Some, None, refl, ap, ◌∙◌, arith}
use Rattle.std.specs.List.{slice_get}
use Rattle.std.proofs.lemmas.List.FromFn.{length-map-range_with_len, get_or-map-range_with_len}
use Rattle.std.proofs.lemmas.Option.{slice_get-get_or, slice_get_past}
use Rattle.faults.specs.Asks.{Met}
use Rattle.postings.specs.Making.{to_make}
use Rattle.postings.specs.Table.{all_lawful}
use Rattle.postings.proofs.Lawful.{lawful_places, met_lawful}
use Rattle.images.specs.Reading.{row_at, rows_up_to, price_at, prices_in}

pub rows_length : (bytes : List ℕ) (n : ℕ) → length (rows_up_to bytes n) ≡ n
unfolding rows_up_to
rows_length bytes n = length-map-range_with_len (row_at bytes) 0 n

pub rows_nth : (bytes : List ℕ) (n k : ℕ) → k < n → slice_get (rows_up_to bytes n) k ≡ Some (row_at bytes k)
unfolding rows_up_to
rows_nth bytes n k h =
    slice_get-get_or _ k (row_at bytes k) (rw (rows_length bytes n) h) ∙ ap Some (get_or-map-range_with_len (row_at bytes) 0 n k k (row_at bytes k) h (omega arith))

pub rows_past : (bytes : List ℕ) (n k : ℕ) → n ≤ k → slice_get (rows_up_to bytes n) k ≡ None
rows_past bytes n k h = slice_get_past (rows_up_to bytes n) k (rw (rows_length bytes n) h)

pub rows_none : (bytes : List ℕ) → rows_up_to bytes 0 ≡ []
unfolding rows_up_to
rows_none bytes = refl

pub rows_lawful : (bytes : List ℕ) (n : ℕ) → ((k : ℕ) → k < n → Met (to_make (row_at bytes k))) → all_lawful (rows_up_to bytes n) ≡ true
unfolding rows_up_to
rows_lawful bytes n h = lawful_places (row_at bytes) 0 n (λ k l u. met_lawful (row_at bytes k) (h k (omega arith)))

-- the prices of an image by their hours
pub price_in : (bytes : List ℕ) (hour : ℕ) → hour < 24 → get_or (prices_in bytes) hour 0 ≡ price_at bytes hour
unfolding prices_in
price_in bytes hour h = get_or-map-range_with_len (price_at bytes) 0 24 hour hour 0 h (omega arith)
