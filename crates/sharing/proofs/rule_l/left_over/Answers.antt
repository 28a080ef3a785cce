use Rattle.std.proofs.Common.{◌≡◌, ℕ, ◌*◌, ◌/◌, get_or, pos, nat_abs, sum_by, sym, ap, ap₂, ◌∙◌, add-mul, arith, w64, SFits, rules}
use lib.Arith.{digits_div}
use Rattle.std.proofs.lemmas.Int.{to_z-of_z}
use Rattle.std.proofs.lemmas.List.{take_all}
use Rattle.std.proofs.lemmas.List.Sums.{sum_by_more}
use Rattle.sharing.specs.LawL.{rest_lt, left_none}
use Rattle.sharing.proofs.Topping.{spare_is}
use Rattle.sharing.proofs.rule_l.left_over.Goals as goal
use Rattle.sharing.proofs.rule_l.left_over.Goals.{then-rest-total, else-rest-total}

pub returns-then-total-eq0-clause-value : goal.returns-then-total-eq0-clause-value
returns-then-total-eq0-clause-value c = sym (left_none _ c.args.division.now.weights.now (omega (arith, c.args.division.now.weighed.sum_is)))

pub loop-r-preserved : goal.loop-r-preserved
loop-r-preserved c =
    let r = c.args.remainders.now in
    let k = c.loop-r.r-index in
    let total = c.args.division.now.total in
    let s = sum_by_more nat_abs r k (pos 0) c.loop-r-test.true in
    let f : SFits w64 (get_or r k (pos 0)) = search rules in
    let e : c.unsigned_abs-rest.result ≡ nat_abs (get_or r k (pos 0)) = c.unsigned_abs-rest.ensures.value ∙ ap nat_abs (to_z-of_z w64 _ f) in
    let n = ap nat_abs (c.requires.places k c.loop-r-test.true) in
    let sums = c.args.division.now.weighed.sum_is in
    let b = rest_lt c.args.division.now.amount c.args.division.now.weights.now k (omega arith) in
    elim c.if-rest-total.branch [
      | then-rest-total w ↦
          let m = ap (λ (n : ℕ). n * total) w.whole-is ∙ add-mul c.loop-r.whole 1 total in
          (omega (arith, w.rest-is, w.if-rest-total.true), omega (arith, w.rest-is, w.if-rest-total.true), omega (arith, w.whole-is))
      | else-rest-total w ↦
          let m = ap (λ (n : ℕ). n * total) w.whole-is in
          (omega (arith, w.rest-is), omega (arith, w.rest-is, w.if-rest-total.false), omega (arith, w.whole-is))
    ]

pub returns-clause-value : goal.returns-clause-value
returns-clause-value c =
    sym (digits_div c.loop-r.whole c.loop-r.invariant.1)
    ∙ ap₂ ◌/◌ (c.loop-r.invariant.0 ∙ ap (sum_by nat_abs) (take_all c.loop-r.r-index c.args.remainders.now c.loop-r-test.false)) c.args.division.now.weighed.sum_is
    ∙ spare_is c.args.division.now.amount c.args.division.now.weights.now c.args.remainders.now c.requires.within c.requires.places
