use Rattle.std.proofs.Common.{◌≡◌, ◌≤◌, drop, max}
use Rattle.sheets.specs.Members.{named}
use Rattle.sheets.proofs.members.members_named.Given as goal

-- the members named so far, and those that what is left names, are those that the list names
abbrev pub invariant-loop-posting : goal.invariant-loop-posting
invariant-loop-posting g l =
    (max l.members (named (drop l.posting-iterator.place (g.B.Book.list l.posting-iterator.book.now))) ≡ named (g.B.Book.list l.fn.book)) × (1 ≤ l.members)
