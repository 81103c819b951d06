use Rattle.std.proofs.Common.{sym, ◌∙◌}
use Rattle.state.proofs.FormedLaws.{formed}
use Rattle.state.proofs.Walkable.{readable}
use Rattle.owned.proofs.resuming.is_whole.Goals as goal

pub is_rooted-requires : goal.is_rooted-requires
is_rooted-requires c = let f = formed _ _ (sym c.well_formed-2.ensures ∙ c.if-not-well_formed.false) in record { long = f.long; round = f.settings.ceiling_to }

pub is_proposal_rooted-requires : goal.is_proposal_rooted-requires
is_proposal_rooted-requires c = formed _ _ (sym c.well_formed-2.ensures ∙ c.if-not-well_formed.false)

pub new-requires : goal.new-requires
new-requires c = readable _ _ (formed _ _ (sym c.well_formed-2.ensures ∙ c.if-not-well_formed.false))
