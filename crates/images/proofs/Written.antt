-- What the host's bytes hold when the bytes of a day are laid over them from the first on.
use Rattle.std.proofs.Common.{◌≡◌, ℕ, ◌+◌, ◌*◌, ◌≤◌, true, List, length, take, drop, replicate, sym, ap, ◌∙◌, subst, arith}
use Rattle.std.proofs.lemmas.List.{length-replicate, drop-replicate}
use Rattle.faults.specs.Asks.{Met}
use Rattle.postings.specs.declared.row.PostingRow.{PostingRow}
use Rattle.postings.specs.Table.{all_lawful}
use Rattle.images.specs.Bytes.{bytes_of}
use Rattle.images.specs.Laying.{laid}
use Rattle.images.specs.Writing.{to_write, Writes, Holds}
use Rattle.images.specs.Laws.{OpensAs}
use Rattle.images.proofs.Laying.{laid_front, laid_past}
use Rattle.images.proofs.Days.{bytes_long}
use Rattle.images.proofs.DayAndImage.{day_opens}

module _ (prices : List ℕ) (list : List PostingRow) (old new : List ℕ) (n : ℕ) where
  pub writes : Met (to_write prices list (length old)) → n ≡ 100 + 13 * length list → new ≡ laid old 0 (bytes_of prices list) → Writes prices list old n new
  writes m h e =
      let long = bytes_long prices list m.0 in
      let room = m.1.1.1.0 in
      record {
        met = m;
        value = omega arith;
        after = ap (take n) e ∙ laid_front old 0 (bytes_of prices list) n (omega arith) (omega arith);
        past = ap (drop n) e ∙ laid_past old 0 (bytes_of prices list) n (omega arith) (omega arith);
      }

  pub written_within : Writes prices list old n new → n ≤ length old
  written_within w = let m = w.met in omega (arith, w.value, bytes_long prices list m.0, m.1.1.1.0)

  -- what was written opens as the day
  pub written_opens : Writes prices list old n new → all_lawful list ≡ true → OpensAs prices list (take n new)
  written_opens w h =
      let m = w.met in
      subst (OpensAs prices list) (sym w.after) (day_opens prices list (record { priced = m.0; limited = λ hour h. m.1.0 hour (omega arith); few = m.1.1.0; lawful = h }))

-- an array that was nil holds the image, and is nil past it
pub holds : (prices : List ℕ) (list : List PostingRow) (room : ℕ) (new : List ℕ) (n : ℕ) → Writes prices list (replicate room 0) n new → Holds prices list room new n
holds prices list room new n w = record {
  met = subst (λ (k : ℕ). Met (to_write prices list k)) (length-replicate room 0) w.met;
  value = w.value;
  after = w.after;
  past = w.past ∙ drop-replicate n room 0;
}
