use Rattle.std.proofs.Common.{◌≡◌, ℕ, drop, Some, sym, refl, ap, ◌∙◌, arith, below_more}
use Rattle.std.specs.List.{slice_get}
use Rattle.postings.specs.declared.row.PostingRow.{PostingRow}
use Rattle.books.proofs.Places.{first_place, below_some}
use Rattle.reckoning.specs.Admission.{MemberAt}
use Rattle.reckoning.proofs.admission.check_members.Goals as goal

same_row : (q r : PostingRow) → Some q ≡ Some r → q ≡ r
same_row q r e = cc

pub returns-then-from-members : goal.returns-then-from-members
returns-then-from-members g c =
    let rows = g.B.Book.list c.args.book.now in
    let s = c.in-Some.ensures.steps in
    let here = (first_place rows _ c.loop-place.place-iterator.count c.in-Some.posting.row (c.loop-place.invariant.0 ∙ s.0)).0 ∙ ap (λ (k : ℕ). slice_get rows k) (sym s.1) in
    let m = ap (λ (r : PostingRow). r.member) c.row.ensures.value in
    record {
      cases = (c.in-Some.place, refl, below_some rows c.in-Some.place _ here, λ at. (let lt = at c.in-Some.posting.row (sym here) in omega (arith, m)), λ j h. c.loop-place.invariant.1 j (omega (arith, s.1)));
    }

pub loop-place-preserved : goal.loop-place-preserved
loop-place-preserved g c =
    let rows = g.B.Book.list c.args.book.now in
    let s = c.in-Some.ensures.steps in
    let f = first_place rows _ c.loop-place.place-iterator.count c.in-Some.posting.row (c.loop-place.invariant.0 ∙ s.0) in
    let m = ap (λ (r : PostingRow). r.member) c.row.ensures.value in
    let more = below_more (MemberAt rows c.args.members) c.loop-place.place-iterator.count c.loop-place.invariant.1 (λ r e.
    let q = ap (λ (x : PostingRow). x.member) (same_row _ _ (f.0 ∙ e)) in
    omega (arith, m, q)) in
    (ap (λ (k : ℕ). drop k rows) s.2 ∙ f.1, λ k h. more k (omega (arith, s.2)))
