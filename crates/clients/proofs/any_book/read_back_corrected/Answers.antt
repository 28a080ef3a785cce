-- The layer begins with the book's list; the posting goes last, and there is room to correct it.
use Rattle.std.proofs.Common.{◌≡◌, ◌<◌, List, length, sym, ap, ◌∙◌, inr, arith}
use Rattle.std.specs.List.{slice_get}
use Rattle.std.proofs.lemmas.Bool.{cond-true, lt-ltb}
use Rattle.postings.specs.declared.row.PostingRow.{PostingRow}
use Rattle.books.specs.Layers.{corrected_places, layered}
use Rattle.books.proofs.Places.{nth_push}
use Rattle.clients.proofs.Correcting.{corrected_at}
use Rattle.clients.proofs.Posting.{posts}
use Rattle.clients.proofs.any_book.read_back_corrected.Goals as goal

pub returns : goal.returns
returns g c =
    let rows = g.B.Book.list c.args.book.now in
    let first = layered c.new-layer.result.corrections (g.B.Book.list c.new-layer.result.lower.now) in
    let taken = posts first _ (g.B.Book.largest c.new-layer.result.lower.now) c.args.posting.row c.post.result c.in_ok-place.place c.in_ok-place.ensures.value c.post.ensures.cases in
    let same : first ≡ rows = ap (λ b. layered c.new-layer.result.corrections (g.B.Book.list b.now)) c.new-layer.ensures.lower ∙ c.new-layer.ensures.list in
    let room : length (corrected_places c.post.new.self.corrections) < 32 = omega (arith, ap length (c.post.ensures.places ∙ c.new-layer.ensures.places)) in
    let there = ap (λ (xs : List PostingRow). slice_get xs c.in_ok-place.place) taken.after ∙ (ap (slice_get _) taken.value ∙ nth_push first c.args.posting.row) in
    let below : length rows < g.B.Book.largest c.args.book.now = omega (arith, taken.met.0, ap length same, ap (λ b. g.B.Book.largest b.now) c.new-layer.ensures.lower) in
    record {
      value =
          c.at.ensures.value
          ∙ (corrected_at _ _ c.in_ok-place.place c.args.volume c.correct.result _ _ c.args.posting.row c.correct.ensures.cases (inr room) there
          ∙ sym (cond-true _ _ _ (lt-ltb _ _ below)));
    }
