use Rattle.std.proofs.Common.{refl, subst, arith}
use Rattle.faults.specs.Asks.{Refused}
use Rattle.postings.specs.declared.row.PostingRow.{PostingRow}
use Rattle.postings.specs.Making.{to_make}
use Rattle.postings.proofs.Lawful.{lawful_met}
use Rattle.images.proofs.checks.check_postings.Goals as goal

pub returns-in-Err : goal.returns-in-Err
returns-in-Err c = record {
  cases = (c.loop-place.place, c.in-Err.fault, refl, omega arith, subst (λ (r : PostingRow). Refused (to_make r) c.in-Err.fault) c.row_at.ensures.value c.in-Err.ensures.cases, λ j h. lawful_met _ (c.loop-place.invariant j h));
}

pub returns : goal.returns
returns c = record { cases = λ k h. lawful_met _ (c.loop-place.invariant k (omega arith)) }
