-- The new row is a posting's, so it is lawful.
use Rattle.std.proofs.Common.{◌≡◌, true}
use Rattle.postings.specs.Table.{lawful}
use Rattle.books.proofs.Rolls.{lawful_pushed}
use Rattle.books.proofs.rows.RowsBookOpenBook.post.Goals as goal

pub invariant_of-self : goal.invariant_of-self
invariant_of-self c =
    let h : lawful c.row.result ≡ true = rw c.row.ensures.value c.args.posting.keeps in
    record { keeps = lawful_pushed c.args.self.now.roll c.push.new.self c.row.result c.push.result c.push.ensures.cases c.args.self.now.keeps h }
