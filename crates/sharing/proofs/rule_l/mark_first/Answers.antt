use Rattle.std.proofs.Common.{◌+◌, sym, subst, arith}
use Rattle.sharing.specs.Marks.{Marked}
use Rattle.sharing.proofs.Marking.{marked_more}
use Rattle.sharing.proofs.rule_l.mark_first.Goals as goal
use Rattle.sharing.proofs.rule_l.mark_first.Goals.{in-Some, in_default}

pub loop-preserved : goal.loop-preserved
loop-preserved c = elim c.match-first_largest.branch [
  | in-Some w ↦
      subst (λ ys. Marked c.args.out.now (c.loop.counter + 1) ys) (sym w.out-is)
      (marked_more c.args.out.now c.loop.out c.loop.counter w.in-Some.first c.requires.low_bound (omega arith) (omega arith) c.loop.invariant w.in-Some.ensures.finds)
  | in_default w ↦ absurd (omega (arith, w.in_default.ensures.finds))
]
