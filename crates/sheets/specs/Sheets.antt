-- The sheet of a day image.
use Rattle.std.specs.Prelude.{◌≡◌, ℕ, ◌⊎◌, List, take, ℤ, Ok, Err, Result}
use Rattle.faults.specs.declared.fault.Fault.{Fault}
use Rattle.faults.specs.Asks.{Met, Refused}
use Rattle.postings.specs.declared.row.PostingRow.{PostingRow}
use Rattle.images.specs.Reading.{prices_in, rows_up_to, count_in}
use Rattle.images.specs.Checking.{to_check}
use Rattle.formulas.specs.Imbalances.{sheet_bill}
use Rattle.formulas.specs.Sheet.{sheet}
use Rattle.reckoning.specs.Reckoning.{to_reckon}
use Rattle.sheets.specs.declared.text.Sheet.{Sheet}
use Rattle.sheets.specs.Members.{named}

-- the postings of an image
abbrev pub postings : List ℕ → List PostingRow
postings image = rows_up_to image (count_in image)

-- the image passes the check, and the sheet is the one that the formulas give for its prices and postings
pub record IsSheet (parts : ℤ → List ℕ → List ℤ) (letter : ℕ) (image : List ℕ) (s : Sheet) : Type 0 where
  pub met : Met (to_check image)
  pub letter_is : s.letter ≡ letter
  pub members_are : s.members ≡ named (postings image)
  pub rows_are : take s.members s.rows ≡ sheet parts (prices_in image) (postings image) s.members
  pub bill_is : s.bill ≡ sheet_bill (prices_in image) (postings image) s.members

-- a fault of the check, or else of the day's limits
abbrev pub NoSheet : List ℕ → Fault → Type 0
NoSheet image f =
    Refused (to_check image) f ⊎ (Met (to_check image) × Refused (to_reckon (prices_in image) (postings image) (named (postings image)) 64) f)

-- the sheet of an image under a rule, or the fault for which there is none
abbrev pub OfImage : (ℤ → List ℕ → List ℤ) → ℕ → List ℕ → Result Sheet Fault → Type 0
OfImage parts letter image (Ok s) = IsSheet parts letter image s
OfImage parts letter image (Err f) = NoSheet image f
