use Rattle.std.proofs.Common.{ℕ, Bool, cond, eqb, get_or, nat_abs, sym, ap, ◌∙◌, rules}
use Rattle.gathering.specs.Offers.{better}
use Rattle.gathering.proofs.Best.{sets_at, taken_in}
use Rattle.gathering.proofs.offers.take_offer.Goals as goal

pub returns-then-has_offer : goal.returns-then-has_offer
returns-then-has_offer c =
    let out = c.args.prices.now in
    let r = c.args.posting.now.row in
    record {
      after = λ h lh.
          taken_in out c.from-hour.result h c.better.result c.args.way (nat_abs r.price) (search rules) (search rules)
          ∙ ap (λ (b : Bool). cond b (better c.args.way (nat_abs r.price) (get_or out h 0)) (get_or out h 0)) (ap (λ (n : ℕ). eqb n h) (search rules) ∙ sym (sets_at c.args.way h r c.args.posting.now.keeps (search rules)));
    }
