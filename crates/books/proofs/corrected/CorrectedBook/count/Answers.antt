-- The layer has as many postings as the lower book, and all are lawful.
use Rattle.std.proofs.Common.{sym, ◌∙◌}
use Rattle.books.specs.Layers.{volume_at}
use Rattle.books.specs.Amended.{lawful_amended}
use Rattle.books.proofs.Amends.{length_amended}
use Rattle.books.proofs.corrected.CorrectedBook.count.Goals as goal

pub returns : goal.returns
returns g c =
    let f = volume_at c.args.self.now.corrections in
    let rows = g.B.Book.list c.args.self.now.lower in
    record {
      value = c.count.ensures.value ∙ sym (length_amended f 0 rows);
      lawful = lawful_amended f 0 rows c.count.ensures.lawful;
      bound = simp length_amended c.count.ensures.bound;
    }
