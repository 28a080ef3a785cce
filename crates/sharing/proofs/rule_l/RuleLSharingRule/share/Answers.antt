use Rattle.std.proofs.Common.{length, ap, ap₂, ◌∙◌, subst, arith, w64}
use Rattle.std.proofs.lemmas.Int.{to_z-of_z}
use Rattle.sharing.specs.Rules.{parts_l}
use Rattle.sharing.specs.Marks.{Marked}
use Rattle.sharing.proofs.Topping.{parts_are}
use Rattle.sharing.proofs.rule_l.RuleLSharingRule.share.Goals as goal

pub returns : goal.returns
returns c =
    let e = to_z-of_z w64 c.args.amount c.ranges.amount in
    let a = rw e at c.in_ok-division.ensures.cases in
    let d = c.in_ok-division.division in
    let marked = subst (λ n. Marked c.write_remainders.new.out n c.mark_first.new.out) c.left_over-spare.ensures.value c.mark_first.ensures.places in
    record {
      cases = record {
        met = a.met;
        after = parts_are d.amount d.weights.now c.write_remainders.new.out (omega (arith, ap length a.weights_are, a.met.0)) c.write_remainders.ensures.places c.mark_first.new.out c.write_parts.new.out (omega arith) marked c.write_parts.ensures.places
            ∙ ap₂ parts_l a.amount_is a.weights_are;
      };
    }
