use Rattle.std.proofs.Common.{◌≡◌, ℕ, ◌<◌, drop}
use Rattle.reckoning.specs.Admission.{MemberAt}
use Rattle.reckoning.proofs.admission.check_members.Given as goal

-- what is left is the list from the place on, and before it all are members
abbrev pub invariant-loop-place : goal.invariant-loop-place
invariant-loop-place g l =
    (drop l.place-iterator.count (g.B.Book.list l.fn.book) ≡ drop l.place-iterator.iter.place (g.B.Book.list l.place-iterator.iter.book.now))
    × ((k : ℕ) → k < l.place-iterator.count → MemberAt (g.B.Book.list l.fn.book) l.members k)
