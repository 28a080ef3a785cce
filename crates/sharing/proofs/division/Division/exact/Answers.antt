use Rattle.std.proofs.Common.{◌<◌, arith, rules}
use Rattle.sharing.specs.Inside.{Weighed}
use Rattle.sharing.specs.Fitting.{quotient_read, quotient_size, rest_read}
use Rattle.sharing.proofs.division.Division.exact.Goals as goal

pub returns : goal.returns
returns c =
    let w : Weighed c.args.self.now.amount c.args.self.now.weights.now c.args.self.now.total = c.args.self.now.weighed in
    let p : 0 < c.args.self.now.total = omega arith in
    record { whole = search (rules, quotient_read); rest = search (rules, rest_read); bound = search (rules, quotient_read, quotient_size) }
