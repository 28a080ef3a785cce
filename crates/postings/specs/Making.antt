-- What making a posting asks and answers.
use Rattle.std.specs.Prelude.{◌≡◌, true, List, [], ◌∷◌, Ok, Err, Result}
use Rattle.faults.specs.declared.making.MakingFault.{MakingFault}
use Rattle.faults.specs.declared.making.MakingFault.TheVariants.{Kind, Hours, Volume, Price, Label, Member}
use Rattle.faults.specs.Asks.{Ask, ask, Met, Refused}
use Rattle.postings.specs.declared.row.PostingRow.{PostingRow}
use Rattle.postings.specs.declared.posting.Posting.{Posting}
use Rattle.postings.specs.Table.{kind_kept, hours_kept, volume_kept, price_kept, label_kept, member_kept}

-- the columns in the order of their numbers, 1 to 6
abbrev pub to_make : PostingRow → List (Ask MakingFault)
to_make r =
    ask Kind (kind_kept r ≡ true) ∷ ask Hours (hours_kept r ≡ true) ∷ ask Volume (volume_kept r ≡ true)
    ∷ ask Price (price_kept r ≡ true) ∷ ask Label (label_kept r ≡ true) ∷ ask Member (member_kept r ≡ true) ∷ []

pub record Makes (row : PostingRow) (p : Posting) : Type 0 where
  pub value : p.row ≡ row
  pub met : Met (to_make row)

-- the posting of a row, or the first column that the row breaks
abbrev pub Made : PostingRow → Result Posting MakingFault → Type 0
Made row (Ok p) = Makes row p
Made row (Err f) = Refused (to_make row) f
