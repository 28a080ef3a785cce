-- The members that a book names.
use Rattle.std.specs.Prelude.{ℕ, ◌+◌, max, List, [], ◌∷◌}
use Rattle.postings.specs.declared.row.PostingRow.{PostingRow}

-- one more than the highest member named, 1 if none is
abbrev pub named : List PostingRow → ℕ
named [] = 1
named (r ∷ rows) = max (r.member + 1) (named rows)
