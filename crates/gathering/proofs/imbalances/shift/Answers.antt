use Rattle.std.proofs.Common.{◌≡◌, ◌≤◌, nat_abs, ap, subst, arith, rules, w64, to_z, of_z}
use Rattle.postings.specs.Bounds.{Bounds}
use Rattle.gathering.specs.Figures.{most}
use Rattle.gathering.specs.Rules.{effect}
use Rattle.gathering.proofs.Cells.{shifted}
use Rattle.gathering.proofs.imbalances.shift.Goals as goal

pub returns : goal.returns
returns c =
    let r = c.args.posting.now.row in
    let q = c.row-row.ensures.value in
    let e : to_z w64 (of_z w64 c.effect_of.result) ≡ effect c.args.posting.now.row = search rules in
    let small : nat_abs (effect c.args.posting.now.row) ≤ most = omega (arith, ap nat_abs c.effect_of.ensures.value, c.effect_of.ensures.bound) in
    record { after = shifted r _ _ _ _ _ (effect r) (subst Bounds q c.row-row.ensures.bound) c.told-grid (search rules) (search rules) c.add_each.auto.cells c.add_each.ensures.after e small }
