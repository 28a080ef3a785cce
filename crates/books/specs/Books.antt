-- What books ask and answer.
use Rattle.std.specs.Prelude.{◌≡◌, ℕ, ◌<◌, List, [], ◌∷◌, ◌++◌, length, Some, None, Ok, Err, Option, Result, slice_set}
use Rattle.faults.specs.declared.fault.Fault.{Fault}
use Rattle.faults.specs.declared.fault.Fault.TheVariants.{BookFull}
use Rattle.faults.specs.Asks.{Ask, ask, Met, Refused}
use Rattle.postings.specs.declared.row.PostingRow.{PostingRow}
use Rattle.postings.specs.declared.posting.Posting.{Posting}

-- the row of the posting that was answered
abbrev pub row_of : Option Posting → Option PostingRow
row_of (Some p) = Some p.row
row_of None = None

-- a book takes a posting while its count is below its largest count
abbrev pub to_post : List PostingRow → ℕ → List (Ask Fault)
to_post list largest = ask BookFull (length list < largest) ∷ []

-- the row goes to the end, and its place is answered
pub record Posts (list : List PostingRow) (largest : ℕ) (row : PostingRow) (place : ℕ) (new : List PostingRow) : Type 0 where
  pub met : Met (to_post list largest)
  pub value : place ≡ length list
  pub after : new ≡ list ++ (row ∷ [])

-- the list stays as it was
pub record NotPosted (list : List PostingRow) (largest : ℕ) (fault : Fault) (new : List PostingRow) : Type 0 where
  pub refused : Refused (to_post list largest) fault
  pub same : new ≡ list

-- the list and the largest count of a book, a row that is posted, the answer, and the list then
abbrev pub Posted : List PostingRow → ℕ → PostingRow → Result ℕ Fault → List PostingRow → Type 0
Posted list largest row (Ok place) new = Posts list largest row place new
Posted list largest row (Err fault) new = NotPosted list largest fault new

-- the host's rows once a row is posted on them: it stands at the place that is answered, and no other slot changes
abbrev pub written : List PostingRow → PostingRow → Result ℕ Fault → List PostingRow
written rows row (Ok place) = slice_set rows place row
written rows row (Err fault) = rows
