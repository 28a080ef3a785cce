-- Every row is lawful, so its posting is made.
use Rattle.std.proofs.Common.{◌≡◌, true, Some, sym, ap, ◌∙◌, subst}
use Rattle.postings.specs.declared.row.PostingRow.{PostingRow}
use Rattle.postings.specs.Table.{lawful}
use Rattle.postings.proofs.Lawful.{lawful_nth}
use Rattle.books.specs.Books.{row_of}
use Rattle.books.proofs.Rolls.{made_row}
use Rattle.images.specs.Reading.{rows_up_to}
use Rattle.images.proofs.Rows.{rows_nth, rows_past}
use Rattle.images.proofs.image.ImageBookBook.at.Goals as goal

pub returns-then-place-self : goal.returns-then-place-self
returns-then-place-self c = record { value = sym (rows_past _ _ _ c.if-place-self.true) }

pub returns : goal.returns
returns c =
    let e = rows_nth c.args.self.now.bytes.now c.args.self.now.count c.args.place c.if-place-self.false in
    let h = lawful_nth (rows_up_to c.args.self.now.bytes.now c.args.self.now.count) c.args.place _ c.args.self.now.keeps e in
    let k = subst (λ (r : PostingRow). lawful r ≡ true) (sym c.row_at.ensures.value) h in
    record { value = ap row_of c.ok.ensures.value ∙ made_row c.row_at.result c.make.result c.make.ensures.cases k ∙ ap Some c.row_at.ensures.value ∙ sym e }
