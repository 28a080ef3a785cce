-- A lawful row at another volume.
use Rattle.std.proofs.Common.{◌≡◌, ℕ, true, ap, ◌∙◌}
use Rattle.std.proofs.lemmas.Bool.{cond_both}
use Rattle.postings.specs.declared.kind.Kind.{Kind}
use Rattle.postings.specs.declared.row.PostingRow.{PostingRow}
use Rattle.postings.specs.Table.{code, kind_of, table, allowed, lawful, volume_within}
use Rattle.postings.specs.Volumes.{volume_allowed, with_volume, at_volume}
use Rattle.postings.proofs.Codes.{code_kind}
use Rattle.postings.proofs.Lawful.{lawful_met, met_lawful}

-- a row of the kind k allows what the table allows k
pub allowed_of : (r : PostingRow) (k : Kind) (v : ℕ) → r.kind ≡ code k → volume_allowed r v ≡ volume_within (table k) v
allowed_of r k v e = ap (λ o. volume_within (allowed o) v) (ap kind_of e ∙ code_kind k)

-- a lawful row stays lawful at a volume that its kind allows
pub lawful_volume : (r : PostingRow) (v : ℕ) → lawful r ≡ true → volume_allowed r v ≡ true → lawful (with_volume r v) ≡ true
lawful_volume r v h e =
    let m = lawful_met r h in
    met_lawful (with_volume r v) (m.0, (m.1.0, (e, m.1.1.1)))

-- and at any other volume, since there it is as it was
pub lawful_at : (r : PostingRow) (v : ℕ) → lawful r ≡ true → lawful (at_volume r v) ≡ true
lawful_at r v h = cond_both (volume_allowed r v) (with_volume r v) r (λ x. lawful x ≡ true) (λ e. lawful_volume r v h e) (λ e. h)
