use Rattle.sharing.specs.Marks.{Marked}
use Rattle.sharing.proofs.rule_l.mark_first.Given as goal

abbrev pub invariant-loop : goal.invariant-loop
invariant-loop l = Marked l.initial.out l.counter l.out
