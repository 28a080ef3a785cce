-- What an image check asks and answers.
use Rattle.std.specs.Prelude.{◌≡◌, ℕ, ◌+◌, ◌*◌, ◌≤◌, List, [], ◌∷◌, length, Ok, Err, Result}
use Rattle.faults.specs.declared.fault.Fault.{Fault}
use Rattle.faults.specs.declared.fault.Fault.TheVariants.{ImageFrame, ImagePriceAt, ImagePostingAt}
use Rattle.faults.specs.Asks.{Ask, ask, ask_each, ask_within, Met, Refused}
use Rattle.postings.specs.declared.row.PostingRow.{PostingRow}
use Rattle.postings.specs.Making.{to_make}
use Rattle.images.specs.Reading.{u16_at, price_at, count_in, row_at, rows_up_to}

-- 24 prices, at most 2,048 postings, and a length of 100 bytes and 13 for each posting
pub record Framed (bytes : List ℕ) : Type 0 where
  pub priced : u16_at bytes 0 ≡ 24
  pub few : count_in bytes ≤ 2048
  pub long : length bytes ≡ 100 + 13 * count_in bytes

abbrev pub ask_frame : List ℕ → Ask Fault
ask_frame bytes = ask ImageFrame (Framed bytes)

-- each price is at most 500,000
abbrev pub ask_prices : List ℕ → Ask Fault
ask_prices bytes = ask_each ImagePriceAt 24 (λ hour. price_at bytes hour ≤ 500000)

-- each row makes a posting
abbrev pub ask_postings : List ℕ → Ask Fault
ask_postings bytes = ask_within ImagePostingAt (count_in bytes) (λ place. to_make (row_at bytes place))

-- the frame, then each price, then each posting
abbrev pub to_check : List ℕ → List (Ask Fault)
to_check bytes = ask_frame bytes ∷ ask_prices bytes ∷ ask_postings bytes ∷ []

abbrev pub Checked : List ℕ → Result (Unit {0}) Fault → Type 0
Checked bytes (Ok _) = Met (to_check bytes)
Checked bytes (Err f) = Refused (to_check bytes) f

-- the list of a book that was opened on an image: its postings, or none where it fails the check
pub record Opened (bytes : List ℕ) (list : List PostingRow) : Type 0 where
  pub passed : Met (to_check bytes) → list ≡ rows_up_to bytes (count_in bytes)
  pub failed : (f : Fault) → Refused (to_check bytes) f → list ≡ []
