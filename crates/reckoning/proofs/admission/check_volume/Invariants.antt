use Rattle.std.proofs.Common.{◌≡◌, ◌+◌, ◌≤◌, drop}
use Rattle.formulas.specs.Postings.{volume_hours, most_kwh}
use Rattle.reckoning.proofs.admission.check_volume.Given as goal

-- what is left and what is summed make the whole
abbrev pub invariant-loop-posting : goal.invariant-loop-posting
invariant-loop-posting g l =
    (volume_hours (drop l.posting-iterator.place (g.B.Book.list l.posting-iterator.book.now)) + l.sum ≡ volume_hours (g.B.Book.list l.fn.book)) × (l.sum ≤ most_kwh)
