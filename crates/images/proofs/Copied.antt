-- A copy of an image is the image.
use Rattle.std.proofs.Common.{◌≡◌, ℕ, ◌<◌, List, length, Ok, Err, Result, sym, ap, ◌∙◌, subst, ap₂, inl, inr, ⊎_elim, arith}
use Rattle.faults.specs.declared.fault.Fault.{Fault}
use Rattle.faults.specs.Asks.{Met, Refused}
use Rattle.postings.specs.declared.row.PostingRow.{PostingRow}
use Rattle.images.specs.Reading.{byte, count_in, prices_in, rows_up_to}
use Rattle.images.specs.Bytes.{bytes_of}
use Rattle.images.specs.Checking.{to_check}
use Rattle.images.specs.Writing.{to_write, to_copy, Written, Copied}
use Rattle.images.proofs.Rows.{rows_length}
use Rattle.images.proofs.DayAndImage.{image_is, prices_length, price_limited}
use Rattle.images.proofs.Written.{written_within}

module _ (image old : List ℕ) (m : Met (to_check image)) where
  -- of all that writing asks, only the room can be missing
  room_alone : (fault : Fault) → Refused (to_write (prices_in image) (rows_up_to image (count_in image)) (length old)) fault → Refused (to_copy image (length old)) fault
  room_alone fault (inl p) = absurd (p.1 (prices_length image))
  room_alone fault (inr p) =
      ⊎_elim (λ q. absurd (q.3 (price_limited image m.1.0 q.0 (omega (arith, prices_length image)))))
      (λ q. ⊎_elim (λ r. absurd (r.1 (omega (arith, rows_length image (count_in image), m.0.few))))
      (λ r. ⊎_elim (λ s. inr (m.0, inr (m.1.0, inr (m.1.1.0, inl (s.0, λ h. s.1 (omega (arith, rows_length image (count_in image), m.0.long))))))) (λ s. absurd s.1) r.1) q.1)
      p.1

  pub copied : ((i : ℕ) → byte image i < 256) → (prices : List ℕ) (list : List PostingRow) (answer : Result ℕ Fault) (new : List ℕ) → prices ≡ prices_in image → list ≡ rows_up_to image (count_in image) → Written prices list old answer new → Copied image old answer new
  copied small prices list (Ok n) new e r w =
      let same : bytes_of prices list ≡ image = ap₂ bytes_of e r ∙ sym (image_is image small m) in
      let long = w.value ∙ ap length same in
      let within = written_within prices list old new n w in
      record { met = (m.0, (m.1.0, (m.1.1.0, (omega arith, tt)))); value = long; after = w.after ∙ same; past = w.past }
  copied small prices list (Err fault) new e r w = record {
    refused = room_alone fault (subst (λ (l : List PostingRow). Refused (to_write (prices_in image) l (length old)) fault) r (subst (λ (p : List ℕ). Refused (to_write p list (length old)) fault) e w.refused));
    same = w.same;
  }
