-- Every row of the book is lawful, so its posting is made.
use Rattle.std.proofs.Common.{sym, ap, ◌∙◌}
use Rattle.postings.proofs.Lawful.{lawful_nth}
use Rattle.books.specs.Books.{row_of}
use Rattle.books.specs.Rolls.{entries}
use Rattle.books.proofs.Rolls.{made_row}
use Rattle.books.proofs.rows.RowsBookBook.at.Goals as goal

pub returns : goal.returns
returns c =
    let h = lawful_nth (entries c.args.self.now.roll) c.args.place c.in_ok-at.field-0 c.args.self.now.keeps (sym c.in_ok-at.ensures.value) in
    record { value = ap row_of c.ok.ensures.value ∙ made_row c.in_ok-at.field-0 c.make.result c.make.ensures.cases h ∙ c.in_ok-at.ensures.value }
