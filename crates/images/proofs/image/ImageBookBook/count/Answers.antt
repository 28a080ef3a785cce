use Rattle.std.proofs.Common.{sym, arith}
use Rattle.images.proofs.Rows.{rows_length}
use Rattle.images.proofs.image.ImageBookBook.count.Goals as goal

pub returns : goal.returns
returns c =
    let n = rows_length c.args.self.now.bytes.now c.args.self.now.count in
    record { value = sym n; lawful = c.args.self.now.keeps; bound = omega arith }
