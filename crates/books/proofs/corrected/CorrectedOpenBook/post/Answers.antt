-- The lower book takes the posting, and no correction stands at its place.
use Rattle.std.proofs.Common.{◌≡◌, ℕ, Ok, Result, subst, rules}
use Rattle.faults.specs.declared.fault.Fault.{Fault}
use Rattle.books.specs.Books.{Posted}
use Rattle.books.specs.Layers.{volume_at, layered}
use Rattle.books.proofs.Amends.{layered_posted}
use Rattle.books.proofs.Marks.{noted_above}
use Rattle.books.proofs.corrected.CorrectedOpenBook.post.Goals as goal

pub returns-in_err-place-clause-cases : goal.returns-in_err-place-clause-cases
returns-in_err-place-clause-cases g c =
    let k = c.args.self.now.corrections in
    let rows = g.B.Book.list c.args.self.now.lower in
    let p = layered_posted (volume_at k) rows (g.B.Book.list c.post.new.self) _ c.args.posting.row c.post.result (noted_above _ k.entries.items c.args.self.now.below) c.post.ensures.cases in
    let e : c.post.result ≡ c.from_residual.result = search rules in
    subst (λ (a : Result ℕ Fault). Posted (layered k rows) (g.B.Book.largest c.args.self.now.lower) c.args.posting.row a (layered k (g.B.Book.list c.post.new.self))) e p

pub returns-clause-cases : goal.returns-clause-cases
returns-clause-cases g c =
    let k = c.args.self.now.corrections in
    let rows = g.B.Book.list c.args.self.now.lower in
    layered_posted (volume_at k) rows (g.B.Book.list c.post.new.self) _ c.args.posting.row (Ok c.in_ok-place.place) (noted_above _ k.entries.items c.args.self.now.below) c.in_ok-place.ensures.cases
