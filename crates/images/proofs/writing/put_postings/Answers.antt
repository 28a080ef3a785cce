-- Each posting takes the next thirteen bytes.
use Rattle.std.proofs.Common.{◌+◌, ◌*◌, List, ℕ, sym, refl, ap, ap₂, ◌∙◌, arith}
use Rattle.std.specs.List.{flat_map}
use Rattle.postings.specs.declared.row.PostingRow.{PostingRow}
use Rattle.images.specs.Bytes.{row_bytes}
use Rattle.images.specs.Laying.{laid}
use Rattle.images.proofs.Laying.{laid_none, laid_turn}
use Rattle.images.proofs.writing.put_postings.Goals as goal

pub loop-place-preserved : goal.loop-place-preserved
loop-place-preserved g c =
    let s = c.in-Some.ensures.steps in
    let at = 100 + 13 * c.loop-place.place-iterator.count in
    let put = c.put.ensures.after ∙ ap₂ (λ (k : ℕ) (bs : List ℕ). laid c.loop-place.out (100 + 13 * k) bs) s.1 (c.row_bytes.ensures.value ∙ ap row_bytes c.row.ensures.value) in
    let t = laid_turn row_bytes 13 (λ r. refl) c.loop-place.out c.put.new.out at (100 + 13 * c.next.new.self.count) _ _ c.in-Some.posting.row s.0 (omega (arith, s.2)) put c.loop-place.invariant.1 in
    (t.0 ∙ c.loop-place.invariant.0, t.1)

pub returns : goal.returns
returns g c = record {
  after =
      laid_none c.loop-place.out _
      ∙ ap (λ (rs : List PostingRow). laid c.loop-place.out (100 + 13 * c.loop-place.place-iterator.count) (flat_map row_bytes rs)) (sym c.in-None.ensures.steps.0.0)
      ∙ c.loop-place.invariant.0;
}
