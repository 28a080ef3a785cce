use Rattle.std.proofs.Common.{arith}
use Rattle.postings.proofs.Bounds.{bounds}
use Rattle.postings.proofs.posting.Posting.hours.Goals as goal

pub overflow_sub-result : goal.overflow_sub-result
overflow_sub-result c = (bounds c.args.self.now.row c.args.self.now.keeps).ordered

pub overflow_add-result : goal.overflow_add-result
overflow_add-result c =
    let b = bounds c.args.self.now.row c.args.self.now.keeps in
    omega (arith, b.last)

pub returns-clause-value : goal.returns-clause-value
returns-clause-value c =
    let b = bounds c.args.self.now.row c.args.self.now.keeps in
    omega (arith, b.ordered)

pub returns-clause-bound : goal.returns-clause-bound
returns-clause-bound c =
    let b = bounds c.args.self.now.row c.args.self.now.keeps in
    omega (arith, b.last)
