-- What a correction comes to at its place.
use Rattle.std.proofs.Common.{◌≡◌, ℕ, zero, suc, true, List, [], ◌∷◌, Some, Ok, Err, Option, Result, sym, ap, ◌∙◌, inl, inr, ⊎_elim, arith}
use Rattle.std.specs.List.{slice_get}
use Rattle.std.proofs.lemmas.Bool.{cond-true, cond-false, cases_Bool}
use Rattle.faults.specs.declared.fault.Fault.{Fault}
use Rattle.faults.specs.Asks.{Refused}
use Rattle.postings.specs.declared.row.PostingRow.{PostingRow}
use Rattle.postings.specs.Volumes.{volume_allowed, with_volume, at_volume}
use Rattle.books.specs.Layers.{RoomFor, allowed_at, with_volume_at, to_correct, Corrects}
use Rattle.books.proofs.Places.{below_some}

nth_with : (rs : List PostingRow) (p v : ℕ) (r : PostingRow) → slice_get rs p ≡ Some r → slice_get (with_volume_at rs p v) p ≡ Some (with_volume r v)
nth_with [] p v r e = let z : ◌≡◌ {A = ℕ} 0 1 = cc in absurd (omega arith)
nth_with (x ∷ rs) zero v r e = let same : x ≡ r = cc in ap (λ (y : PostingRow). Some (with_volume y v)) same
nth_with (x ∷ rs) (suc p) v r e = nth_with rs p v r e

-- where there is room, the posting at the place is then at the new volume, if its kind allows it
pub corrected_at : (rs : List PostingRow) (ps : List ℕ) (p v : ℕ) (a : Result (Unit {0}) Fault) (new : List PostingRow) (qs : List ℕ) (r : PostingRow) → Corrects rs ps p v a new qs → RoomFor ps p → slice_get rs p ≡ Some r → slice_get new p ≡ Some (at_volume r v)
corrected_at rs ps p v (Ok _) new qs r c room e =
    let allowed : volume_allowed r v ≡ true = sym (ap (λ (o : Option PostingRow). allowed_at o v) e) ∙ c.met.1.0 in
    ap (λ (xs : List PostingRow). slice_get xs p) c.after ∙ (nth_with rs p v r e ∙ ap Some (sym (cond-true _ _ _ allowed)))
corrected_at rs ps p v (Err f) new qs r c room e = ap (λ (xs : List PostingRow). slice_get xs p) c.same ∙ (e ∙ ap Some (sym (kept c.refused)))
  where
    kept : Refused (to_correct rs ps p v) f → at_volume r v ≡ r
    kept (inl n) = absurd (n.1 (below_some rs p r (sym e)))
    kept (inr (_, inl n)) =
        ⊎_elim (λ yes. absurd (n.1 (ap (λ (o : Option PostingRow). allowed_at o v) e ∙ yes))) (λ f. cond-false _ _ _ f) (cases_Bool (volume_allowed r v))
    kept (inr (_, inr (_, inl n))) = absurd (n.1 room)
    kept (inr (_, inr (_, inr n))) = absurd n.1
