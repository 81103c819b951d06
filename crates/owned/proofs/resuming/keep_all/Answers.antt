use Rattle.std.proofs.Common.{arith}
use Rattle.state.proofs.Walkable.{readable}
use Rattle.owned.proofs.resuming.keep_all.Goals as goal

pub new-requires : goal.new-requires
new-requires c = readable _ _ c.requires.formed

pub fill_cache-requires : goal.fill_cache-requires
fill_cache-requires c = omega arith
