use Rattle.std.proofs.Common.{arith}
use Rattle.faults.proofs.Asks.{asks_never}
use Rattle.images.specs.Checking.{to_check}
use Rattle.images.proofs.Rows.{rows_none, rows_lawful}
use Rattle.images.proofs.Deciding.{checking_decided}
use Rattle.images.proofs.image.ImageBook.open.Goals as goal

pub invariant_of-result : goal.invariant_of-result
invariant_of-result c = record { few = omega arith; keeps = rows_lawful _ 0 (λ k h. absurd (omega arith)) }

pub returns-in_default : goal.returns-in_default
returns-in_default c = record {
  cases = record {
    passed = λ m. absurd (asks_never (to_check c.args.bytes.now) (checking_decided c.args.bytes.now) _ c.in_default.ensures.cases m);
    failed = λ f r. rows_none _;
  };
}

pub invariant_of-result-2 : goal.invariant_of-result-2
invariant_of-result-2 c =
    let m = c.in-Ok.ensures.cases in
    let e = c.stated_count-count.ensures.value in
    record { few = omega (arith, m.0.few); keeps = rows_lawful _ _ (λ k h. m.1.1.0 k (omega arith)) }
