-- A day and its image determine each other.
use Rattle.std.specs.Prelude.{◌≡◌, ℕ, ◌<◌, ◌≤◌, true, List, length, take, Ok, Err, Result, slice_index}
use Rattle.faults.specs.declared.fault.Fault.{Fault}
use Rattle.faults.specs.Asks.{Met}
use Rattle.postings.specs.declared.row.PostingRow.{PostingRow}
use Rattle.postings.specs.Table.{all_lawful}
use Rattle.images.specs.Reading.{byte, count_in, prices_in, rows_up_to}
use Rattle.images.specs.Bytes.{bytes_of}
use Rattle.images.specs.Checking.{to_check}

-- a day that an image can hold: 24 prices of at most 500,000 and at most 2,048 lawful postings
pub record Day (prices : List ℕ) (list : List PostingRow) : Type 0 where
  pub priced : length prices ≡ 24
  pub limited : (hour : ℕ) → hour < 24 → slice_index prices hour ≤ 500000
  pub few : length list ≤ 2048
  pub lawful : all_lawful list ≡ true

-- the bytes pass the check, and these are their prices and their list
pub record OpensAs (prices : List ℕ) (list : List PostingRow) (bytes : List ℕ) : Type 0 where
  pub met : Met (to_check bytes)
  pub priced : prices_in bytes ≡ prices
  pub listed : rows_up_to bytes (count_in bytes) ≡ list

-- the bytes of a day open as that day
abbrev pub DayOpens : Type 0
DayOpens = (prices : List ℕ) (list : List PostingRow) → Day prices list → OpensAs prices list (bytes_of prices list)

-- bytes that pass the check are those of their own prices and list
abbrev pub ImageIsItsDay : Type 0
ImageIsItsDay =
    (bytes : List ℕ) → ((i : ℕ) → byte bytes i < 256) → Met (to_check bytes) → bytes ≡ bytes_of (prices_in bytes) (rows_up_to bytes (count_in bytes))

-- what was written opens as the day
abbrev pub Opens : List ℕ → List PostingRow → Result ℕ Fault → List ℕ → Type 0
Opens prices list (Ok n) new = OpensAs prices list (take n new)
Opens prices list (Err fault) new = Unit {0}
