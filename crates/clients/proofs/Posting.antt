-- A place that a book answered is that of a posting it took.
use Rattle.std.proofs.Common.{◌≡◌, ℕ, List, Some, Ok, Err, Result, subst, arith}
use Rattle.std.specs.Result.{result_ok}
use Rattle.faults.specs.declared.fault.Fault.{Fault}
use Rattle.postings.specs.declared.row.PostingRow.{PostingRow}
use Rattle.books.specs.Books.{Posted, Posts}

pub posts : (list new : List PostingRow) (largest : ℕ) (row : PostingRow) (answer : Result ℕ Fault) (place : ℕ) → Some place ≡ result_ok answer → Posted list largest row answer new → Posts list largest row place new
posts list new largest row (Ok at) place e p = let same : at ≡ place = cc in subst (λ (k : ℕ). Posts list largest row k new) same p
posts list new largest row (Err fault) place e p = let z : ◌≡◌ {A = ℕ} 0 1 = cc in absurd (omega arith)
