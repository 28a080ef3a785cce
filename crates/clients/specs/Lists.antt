-- What a host asks of a book's list.
use Rattle.std.specs.Prelude.{ℕ, ◌+◌, cond, List, [], ◌∷◌, length, Some, None, Option, ◌==◌, nat_lt}
use Rattle.postings.specs.declared.row.PostingRow.{PostingRow}

-- 1 for a row with the kind's code, else 0
abbrev pub one_of : ℕ → PostingRow → ℕ
one_of code r = cond (r.kind == code) 1 0

-- how many rows have the kind's code
abbrev pub count_of : ℕ → List PostingRow → ℕ
count_of code [] = 0
count_of code (r ∷ rs) = one_of code r + count_of code rs

-- the row, where a book with this list and largest count takes one more; else none
abbrev pub where_room : List PostingRow → ℕ → PostingRow → Option PostingRow
where_room list largest row = cond (nat_lt (length list) largest) (Some row) None
