use Rattle.std.proofs.Common.{arith}
use Rattle.images.proofs.Copied.{copied}
use Rattle.images.proofs.copying.copy_image.Goals as goal

pub returns : goal.returns
returns c =
    let m = c.in_ok-check.ensures.cases in
    record {
      cases = copied c.args.image.now c.args.out.now m (λ i. omega (arith, c.type_inv.image i)) c.prices.result _ c.write_image.result c.write_image.new.out c.prices.ensures.value (c.open-book.ensures.cases.passed m) c.write_image.ensures.cases;
    }
