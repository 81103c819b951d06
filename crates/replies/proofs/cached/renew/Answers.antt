use Rattle.std.proofs.Common.{sym, ◌∙◌}
use Rattle.state.proofs.FormedLaws.{formed}
use Rattle.state.proofs.Walkable.{readable}
use Rattle.replies.proofs.cached.renew.Goals as goal

pub new-chain-requires : goal.new-chain-requires
new-chain-requires c = readable _ _ (formed _ _ (sym c.requires ∙ c.if-formed.true))
