-- The four pieces come one after the other.
use Rattle.std.proofs.Common.{◌≡◌, length, sym, ap, ◌∙◌, arith}
use Rattle.images.specs.Bytes.{u16_of}
use Rattle.images.proofs.Days.{laid_day}
use Rattle.images.proofs.writing.put_day.Goals as goal

pub returns : goal.returns
returns g c =
    let priced : length c.args.prices.now ≡ 24 = omega arith in
    record {
      after = laid_day c.args.out.now c.put.new.out c.put_prices.new.out c.put-2.new.out c.put_postings.new.out c.to_be_bytes.result c.to_be_bytes-2.result c.args.prices.now (g.B.Book.list c.args.book.now)
          priced c.requires.room (c.to_be_bytes.ensures ∙ sym (ap u16_of priced)) (c.to_be_bytes-2.ensures ∙ ap u16_of c.count.ensures.value) c.put.ensures.after c.put_prices.ensures.after c.put-2.ensures.after c.put_postings.ensures.after;
    }
