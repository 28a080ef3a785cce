-- Every posting of a list is of a member.
use Rattle.std.proofs.Common.{ℕ, suc, ◌<◌, List, [], ◌∷◌, length, All, refl, arith}
use Rattle.std.proofs.lemmas.List.Elements.{All-nil, All-cons}
use Rattle.postings.specs.declared.row.PostingRow.{PostingRow}
use Rattle.reckoning.specs.Admission.{MemberAt}

pub all_members : (rows : List PostingRow) (n : ℕ) → ((k : ℕ) → k < length rows → MemberAt rows n k) → All (λ r. r.member < n) rows
all_members [] n h = All-nil (λ r. r.member < n)
all_members (r ∷ rows) n h = All-cons (λ q. q.member < n) r rows (h 0 (omega arith) r refl) (all_members rows n (λ k lt. h (suc k) (omega arith)))
