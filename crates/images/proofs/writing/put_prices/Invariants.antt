use Rattle.std.proofs.Common.{◌≡◌, ◌+◌, ◌*◌, ◌≤◌, length, drop}
use Rattle.std.specs.List.{flat_map}
use Rattle.images.specs.Bytes.{u32_of}
use Rattle.images.specs.Laying.{laid}
use Rattle.images.proofs.writing.put_prices.Given as goal

-- the prices that are left, laid behind what was laid, make the whole, and there is room for them
abbrev pub invariant-loop-hour : goal.invariant-loop-hour
invariant-loop-hour l =
    let left = drop l.hour l.prices in
    let at = 2 + 4 * l.hour in
    (laid l.out at (flat_map u32_of left) ≡ laid l.fn.out 2 (flat_map u32_of l.fn.prices)) × (at + 4 * length left ≤ length l.out)
