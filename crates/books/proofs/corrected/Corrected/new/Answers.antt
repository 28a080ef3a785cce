-- With no place corrected, no place has a volume.
use Rattle.books.proofs.Amends.{amended_none}
use Rattle.books.proofs.Marks.{noted_none}
use Rattle.books.proofs.corrected.Corrected.new.Goals as goal

pub returns-clause-list : goal.returns-clause-list
returns-clause-list g c = amended_none _ 0 (g.B.Book.list c.args.lower) (λ k. noted_none k c.new-corrections.result.entries.items c.new-corrections.ensures.places)
