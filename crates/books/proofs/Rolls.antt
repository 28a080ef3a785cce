-- Rolls of lawful rows.
use Rattle.std.proofs.Common.{◌≡◌, ℕ, true, Some, None, Ok, Err, Option, Result, ap, ◌∙◌}
use Rattle.postings.specs.declared.row.PostingRow.{PostingRow}
use Rattle.postings.specs.Table.{lawful, all_lawful}
use Rattle.postings.specs.Making.{Made}
use Rattle.postings.specs.declared.posting.Posting.{Posting}
use Rattle.postings.proofs.Lawful.{lawful_push, lawful_made}
use Rattle.faults.specs.declared.making.MakingFault.{MakingFault}
use Rattle.std.specs.Result.{result_ok}
use Rattle.books.specs.Books.{row_of}
use Rattle.books.specs.declared.roll.Roll.{Roll}
use Rattle.books.specs.Rolls.{entries, Pushed}

-- a roll of lawful rows stays one when a lawful row is pushed
pub lawful_pushed : (a b : Roll PostingRow) (x : PostingRow) (r : Option ℕ) → Pushed a x r b → all_lawful (entries a) ≡ true → lawful x ≡ true → all_lawful (entries b) ≡ true
lawful_pushed a b x (Some place) p h k = ap all_lawful p.items ∙ lawful_push (entries a) x h k
lawful_pushed a b x None p h k = ap all_lawful p.items ∙ h

-- the making of a lawful row answers its posting
pub made_row : (row : PostingRow) (made : Result Posting MakingFault) → Made row made → lawful row ≡ true → row_of (result_ok made) ≡ Some row
made_row row (Ok p) m h = ap Some m.value
made_row row (Err f) m h = absurd (lawful_made row f h m)
