use Rattle.std.proofs.Common.{◌≡◌, ◌≤◌, ◌≢◌, Bool, true, false, cond, get_or, set, ℤ, pos, ◌+ℤ◌, nat_abs, ap, ap₂, ◌∙◌, arith, w64, to_z, of_z, SFits, rules}
use mir.Val.{bool_byte}
use lib.Signed.{lt_z}
use Rattle.std.proofs.lemmas.List.Edits.{fill_by_more}
use Rattle.std.proofs.lemmas.List.{get_or-set_other}
use Rattle.std.proofs.lemmas.Int.{ints, to_z-of_z}
use Rattle.sharing.specs.Shared.{limit}
use Rattle.sharing.specs.Marks.{topped}
use Rattle.sharing.proofs.rule_l.write_parts.Goals as goal

-- one more or none fits
added : (l a : ℤ) (b : Bool) → nat_abs l ≤ limit → a ≡ pos (bool_byte b) → to_z w64 (of_z w64 (to_z w64 (of_z w64 l) +ℤ to_z w64 (of_z w64 a))) ≡ l +ℤ pos (cond b 1 0)
added l a true h e = omega (arith, ints)
added l a false h e = omega (arith, ints)

pub loop-k-preserved : goal.loop-k-preserved
loop-k-preserved c = (
  λ j h.
      ap (λ (v : ℤ). get_or (set c.loop-k.out c.loop-k.k v) j (pos 0)) written
      ∙ fill_by_more (topped c.args.division.now.amount c.args.division.now.weights.now c.args.out.now) c.loop-k.out c.loop-k.k (pos 0) (omega arith) c.loop-k.invariant.0 j h,
  λ j h. let ne : j ≢ c.loop-k.k = omega arith in get_or-set_other c.loop-k.out c.loop-k.k j _ (pos 0) ne ∙ c.loop-k.invariant.1 j (omega arith),
)
  where
    written : to_z w64 (of_z w64 (to_z w64 (of_z w64 c.member.result.whole) +ℤ to_z w64 (of_z w64 c.from.result))) ≡ topped c.args.division.now.amount c.args.division.now.weights.now c.args.out.now c.loop-k.k
    written =
        let f : SFits w64 (get_or c.loop-k.out c.loop-k.k (pos 0)) = search rules in
        added _ _ _ c.member.ensures.bound c.from.ensures ∙ ap₂ (λ (l m : ℤ). l +ℤ pos (cond (lt_z m (pos 0)) 1 0)) c.member.ensures.whole (to_z-of_z w64 _ f ∙ c.loop-k.invariant.1 c.loop-k.k (omega arith))
