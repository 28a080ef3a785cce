use Rattle.std.proofs.Common.{refl}
use Rattle.postings.proofs.Bounds.{bounds}
use Rattle.postings.proofs.posting.Posting.row.Goals as goal

pub returns : goal.returns
returns c = record { value = refl; bound = bounds c.args.self.now.row c.args.self.now.keeps }
