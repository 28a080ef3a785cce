use Rattle.images.proofs.Written.{holds}
use Rattle.images.proofs.holding.image_array.Goals as goal

pub returns : goal.returns
returns g c = record { cases = holds c.args.prices.now (g.B.Book.list c.args.book.now) 26724 c.write_image.new.out c.in_ok-length.length c.in_ok-length.ensures.cases }
