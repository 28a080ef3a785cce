use Rattle.std.proofs.Common.{◌≡◌, ℕ, ◌<◌, true}
use Rattle.postings.specs.Table.{lawful}
use Rattle.images.specs.Reading.{row_at}
use Rattle.images.proofs.checks.check_postings.Given as goal

abbrev pub invariant-loop-place : goal.invariant-loop-place
invariant-loop-place l = (k : ℕ) → k < l.place → lawful (row_at l.bytes k) ≡ true
