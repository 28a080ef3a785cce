use Rattle.std.proofs.Common.{◌≡◌, ◌+◌, ◌*◌, ◌≤◌, length, drop}
use Rattle.std.specs.List.{flat_map}
use Rattle.images.specs.Bytes.{row_bytes}
use Rattle.images.specs.Laying.{laid}
use Rattle.images.proofs.writing.put_postings.Given as goal

-- what is left of the list, laid behind what was laid, makes the whole, and there is room for it
abbrev pub invariant-loop-place : goal.invariant-loop-place
invariant-loop-place g l =
    let left = drop l.place-iterator.iter.place (g.B.Book.list l.place-iterator.iter.book.now) in
    let at = 100 + 13 * l.place-iterator.count in
    (laid l.out at (flat_map row_bytes left) ≡ laid l.fn.out 100 (flat_map row_bytes (g.B.Book.list l.fn.book))) × (at + 13 * length left ≤ length l.out)
