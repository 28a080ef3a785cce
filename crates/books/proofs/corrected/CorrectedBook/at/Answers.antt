-- At each place, what the lower book answers, at that place's volume.
use Rattle.std.proofs.Common.{Some, None, refl}
use Rattle.books.specs.Layers.{volume_at}
use Rattle.books.proofs.Amends.{at_none, at_some}
use Rattle.books.proofs.corrected.CorrectedBook.at.Goals as goal

pub returns-in_err-posting : goal.returns-in_err-posting
returns-in_err-posting g c =
    rw c.from_residual.ensures (record { value = at_none (volume_at c.args.self.now.corrections) (g.B.Book.list c.args.self.now.lower) c.args.place c.in_err-posting.ensures.value })

pub returns-in-Some : goal.returns-in-Some
returns-in-Some g c = record {
  value =
      at_some (volume_at c.args.self.now.corrections) (g.B.Book.list c.args.self.now.lower) c.args.place
      c.in_ok-posting.posting.row c.at_volume.result.row (Some c.in-Some.volume) c.in_ok-posting.ensures.value c.in-Some.ensures.value c.at_volume.ensures.value;
}

pub returns-in-None : goal.returns-in-None
returns-in-None g c = record {
  value =
      at_some (volume_at c.args.self.now.corrections) (g.B.Book.list c.args.self.now.lower) c.args.place
      c.in_ok-posting.posting.row c.in_ok-posting.posting.row None c.in_ok-posting.ensures.value c.in-None.ensures.value refl;
}
