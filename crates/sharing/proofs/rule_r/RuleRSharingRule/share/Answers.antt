use Rattle.std.proofs.Common.{◌≡◌, ℕ, ◌+◌, ◌<◌, List, length, get_or, take, set, ℤ, pos, ◌-ℤ◌, ◌*ℤ◌, nat_abs, ◌≤◌, sum, sym, refl, ap, ◌∙◌, subst, ap₂, arith, w64, SFits, to_z, of_z}
use Rattle.integers.specs.Floor.{floor_div}
use Rattle.std.proofs.lemmas.List.FromFn.{fill_by_all, get_or-map-range_with_len}
use Rattle.std.proofs.lemmas.List.Edits.{fill_by_more}
use Rattle.std.proofs.lemmas.Int.{ints, to_z-of_z}
use Rattle.std.proofs.lemmas.List.Sums.{sum_by_more}
use Rattle.sharing.specs.declared.division.Division.{Division}
use Rattle.sharing.specs.Shared.{limit}
use Rattle.sharing.specs.Admission.{Admits}
use Rattle.sharing.specs.Rules.{reached, part_r, parts_r}
use Rattle.sharing.proofs.Parts.{part_fits}
use Rattle.sharing.specs.LawR.{first, reached_here, law_r}
use Rattle.sharing.proofs.rule_r.RuleRSharingRule.share.Goals as goal

pub loop-k-init : goal.loop-k-init
loop-k-init c = (refl, sym (first _ _), λ j h. absurd (omega arith))

-- what the code has in `reached`
reached_is : (s : ℤ) (ws : List ℕ) (places k running : ℕ) (d : Division) (r : ℤ) → Admits s ws places d → k < length ws → running ≡ sum (take k ws) → nat_abs r ≤ limit → r ≡ floor_div (d.amount *ℤ pos (running + get_or ws k 0)) d.total → to_z w64 (of_z w64 r) ≡ reached s ws (k + 1)
reached_is s ws places k running d r a h e f v =
    to_z-of_z w64 r (omega (arith, ints)) ∙ v ∙ ap₂ (λ (z : ℤ) (n : ℕ). floor_div (z *ℤ pos (running + get_or ws k 0)) n) a.amount_is (d.weighed.sum_is ∙ ap sum a.weights_are) ∙ reached_here s ws k running h e

pub overflow_sub-out : goal.overflow_sub-out
overflow_sub-out c =
    let r = reached_is _ c.args.weights.now _ c.loop-k.k c.loop-k.running c.in_ok-division.division _ c.in_ok-division.ensures.cases c.loop-k-test.true c.loop-k.invariant.0 c.exact-reached.ensures.bound c.exact-reached.ensures.whole in
    subst (SFits w64) (get_or-map-range_with_len (part_r _ c.args.weights.now) 0 (length c.args.weights.now) c.loop-k.k c.loop-k.k (pos 0) c.loop-k-test.true (omega arith) ∙ sym (ap₂ ◌-ℤ◌ r c.loop-k.invariant.1))
    (part_fits parts_r law_r _ c.args.weights.now c.loop-k.k c.in_ok-division.ensures.cases.met.1.0 c.loop-k-test.true)

pub loop-k-preserved : goal.loop-k-preserved
loop-k-preserved c =
    let r = reached_is _ c.args.weights.now _ c.loop-k.k c.loop-k.running c.in_ok-division.division _ c.in_ok-division.ensures.cases c.loop-k-test.true c.loop-k.invariant.0 c.exact-reached.ensures.bound c.exact-reached.ensures.whole in (
      omega (arith, sum_by_more (λ x. x) c.args.weights.now c.loop-k.k 0 c.loop-k-test.true),
      r,
      λ j h.
          ap (λ (v : ℤ). get_or (set c.loop-k.out c.loop-k.k v) j (pos 0)) (to_z-of_z w64 _ (overflow_sub-out c) ∙ ap₂ ◌-ℤ◌ r c.loop-k.invariant.1)
          ∙ fill_by_more (part_r _ c.args.weights.now) c.loop-k.out c.loop-k.k (pos 0) (omega (arith, c.in_ok-division.ensures.cases.met.0)) c.loop-k.invariant.2 j h,
    )

pub returns : goal.returns
returns c =
    let e = to_z-of_z w64 c.args.amount c.ranges.amount in
    let a = rw e at c.in_ok-division.ensures.cases in
    record {
      cases = record {
        met = a.met;
        after = fill_by_all (part_r _ c.args.weights.now) c.loop-k.out (length c.args.weights.now) (pos 0) (omega (arith, a.met.0)) (λ k h. c.loop-k.invariant.2 k (omega arith)) ∙ ap (λ (z : ℤ). parts_r z c.args.weights.now) e;
      };
    }
