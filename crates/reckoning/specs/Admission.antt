-- The limits that a day keeps before its sheet is reckoned, each with its fault.
use Rattle.std.specs.Prelude.{◌≡◌, ℕ, ◌<◌, ◌≤◌, List, length, Some}
use Rattle.std.specs.List.{slice_get}
use Rattle.faults.specs.declared.fault.Fault.{Fault}
use Rattle.faults.specs.declared.fault.Fault.TheVariants.{ManyPostings, MuchVolume, StrangerAt}
use Rattle.faults.specs.Asks.{Ask, ask, ask_each}
use Rattle.postings.specs.declared.row.PostingRow.{PostingRow}
use Rattle.formulas.specs.Postings.{volume_hours, most_postings, most_kwh}

-- at most 2,048 postings
abbrev pub ask_postings : List PostingRow → Ask Fault
ask_postings rows = ask ManyPostings (length rows ≤ most_postings)

-- at most 120,000,000 kWh of volume × hours
abbrev pub ask_volume : List PostingRow → Ask Fault
ask_volume rows = ask MuchVolume (volume_hours rows ≤ most_kwh)

-- the posting at a place is of one of n members
abbrev pub MemberAt : List PostingRow → ℕ → ℕ → Type 0
MemberAt rows n k = (r : PostingRow) → slice_get rows k ≡ Some r → r.member < n

-- each posting is of a member of the day
abbrev pub ask_members : List PostingRow → ℕ → Ask Fault
ask_members rows n = ask_each StrangerAt (length rows) (MemberAt rows n)
