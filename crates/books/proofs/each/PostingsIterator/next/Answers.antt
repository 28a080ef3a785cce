use Rattle.std.proofs.Common.{rules}
use Rattle.books.proofs.Places.{drop_place}
use Rattle.books.proofs.each.PostingsIterator.next.Goals as goal

pub returns-clause-steps : goal.returns-clause-steps
returns-clause-steps g c = drop_place (g.B.Book.list c.args.self.now.book.now) c.args.self.now.place _ (search rules)
