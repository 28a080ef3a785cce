use Rattle.std.proofs.Common.{◌≡◌, ◌+◌, ◌≤◌, length, drop}
use Rattle.clients.specs.Lists.{count_of}
use Rattle.clients.proofs.any_book.count_of.Given as goal

-- what is left to count, and what is counted, are all of the list
abbrev pub invariant-loop-posting : goal.invariant-loop-posting
invariant-loop-posting g l =
    let left = drop l.posting-iterator.place (g.B.Book.list l.posting-iterator.book.now) in
    (count_of l.code left + l.count ≡ count_of l.fn.code (g.B.Book.list l.fn.book)) × (length left + l.count ≤ length (g.B.Book.list l.fn.book))
