use Rattle.spans.proofs.WordLaws.{held_put}
use Rattle.spans.proofs.block.put_held.Goals as goal

pub returns : goal.returns
returns c = held_put _ _ _ c.args.at c.requires c.put_held.ensures
