use Rattle.std.proofs.Common.{rules, ◌≡◌, drop, arith}
use Rattle.sheets.specs.Members.{named}
use Rattle.sheets.proofs.Named.{named_some}
use Rattle.sheets.proofs.members.members_named.Goals as goal

pub loop-posting-init : goal.loop-posting-init
loop-posting-init g c =
    let left = drop c.into_iter-posting-iterator.result.place (g.B.Book.list c.into_iter-posting-iterator.result.book.now) in
    let e : named left ≡ named (g.B.Book.list c.args.book.now) = search rules in
    (omega (arith, e, named_some left), omega arith)
