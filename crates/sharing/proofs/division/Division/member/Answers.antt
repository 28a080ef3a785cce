use Rattle.std.proofs.Common.{◌∙◌, pos, ap}
use Rattle.sharing.specs.LawL.{low_here, rest_here}
use Rattle.sharing.proofs.division.Division.member.Goals as goal

pub returns : goal.returns
returns c = record {
  whole = c.exact.ensures.whole ∙ low_here _ _ _ _ c.args.self.now.weighed.sum_is;
  rest = c.exact.ensures.rest ∙ ap pos (rest_here _ _ _ _ c.args.self.now.weighed.sum_is);
  bound = c.exact.ensures.bound;
}
