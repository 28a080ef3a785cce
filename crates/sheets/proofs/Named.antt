-- A day has a member.
use Rattle.std.proofs.Common.{◌≤◌, List, [], ◌∷◌, arith}
use Rattle.postings.specs.declared.row.PostingRow.{PostingRow}
use Rattle.sheets.specs.Members.{named}

pub named_some : (rows : List PostingRow) → 1 ≤ named rows
named_some [] = omega arith
named_some (r ∷ rows) = omega (arith, named_some rows)
