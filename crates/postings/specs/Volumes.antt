-- A row at another volume.
use Rattle.std.specs.Prelude.{ℕ, Bool, cond}
use Rattle.postings.specs.declared.row.PostingRow.{PostingRow}
use Rattle.postings.specs.Table.{limits_of, volume_within}

-- the row's kind allows the volume v
abbrev pub volume_allowed : PostingRow → ℕ → Bool
volume_allowed r v = volume_within (limits_of r) v

-- all else of the row stays
abbrev pub with_volume : PostingRow → ℕ → PostingRow
with_volume r v =
    record { kind = r.kind; member = r.member; first = r.first; last = r.last; volume = v; price = r.price; label = r.label }

-- the row at the volume v where its kind allows it, or else as it is
abbrev pub at_volume : PostingRow → ℕ → PostingRow
at_volume r v = cond (volume_allowed r v) (with_volume r v) r
