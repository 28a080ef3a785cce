-- What every lawful row keeps, whatever its kind.
use Rattle.std.specs.Prelude.{◌<◌, ◌≤◌, unsigned_abs}
use Rattle.postings.specs.declared.row.PostingRow.{PostingRow}

-- the hours are of one day, in order; a volume of 1 to 10,000; a price of at most 500,000 in size; a label of 0 or 1; a member below 64
pub record Bounds (r : PostingRow) : Type 0 where
  pub ordered : r.first ≤ r.last
  pub last : r.last ≤ 23
  pub some : 1 ≤ r.volume
  pub volume : r.volume ≤ 10000
  pub price : unsigned_abs r.price ≤ 500000
  pub label : r.label ≤ 1
  pub member : r.member < 64
