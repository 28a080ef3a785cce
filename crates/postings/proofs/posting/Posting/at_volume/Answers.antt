-- The posting's kind allows the new volume, and nothing else changes.
use Rattle.std.proofs.Common.{sym}
use Rattle.postings.proofs.Volumes.{lawful_volume}
use Rattle.postings.proofs.posting.Posting.at_volume.Goals as goal

pub invariant_of-result : goal.invariant_of-result
invariant_of-result c =
    record { keeps = lawful_volume c.args.self.row c.args.volume c.args.self.keeps (sym c.if-not-allows_volume.ensures.value) }
