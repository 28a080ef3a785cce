-- A posting's kind is one of the table's, and its code is the row's.
use Rattle.std.proofs.Common.{◌≡◌, ℕ, true, false, is_some, sym, ap, ◌∙◌, arith}
use Rattle.postings.proofs.Codes.{kind_code}
use Rattle.postings.proofs.Lawful.{lawful_met}
use Rattle.postings.proofs.posting.Posting.kind.Goals as goal

pub unreachable-requires : goal.unreachable-requires
unreachable-requires c =
    let e : false ≡ true = sym (ap is_some c.in-Err.ensures.none) ∙ (lawful_met c.args.self.now.row c.args.self.now.keeps).0 in
    let z : ◌≡◌ {A = ℕ} 0 1 = cc in
    omega arith

pub returns : goal.returns
returns c = record { value = kind_code _ _ c.in-Ok.ensures }
