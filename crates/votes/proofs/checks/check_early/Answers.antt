use Rattle.std.proofs.Common.{◌∙◌, refl}
use Rattle.committee.specs.Committees.{leader_by}
use Rattle.votes.proofs.CheckLaws.{starting_led}
use Rattle.votes.proofs.checks.check_early.Goals as goal

pub check_anchor-requires : goal.check_anchor-requires
unfolding leader_by
check_anchor-requires c = let e = c.chain-chain.ensures in
    starting_led _ _ _ _ c.args.view.now.formed c.requires (rw (e.table, e.settings, e.blocks) at (c.is_starting.ensures c.if-not-is_starting.false)) (c.starting-starting.ensures.weights ∙ rw e.settings refl) (c.starting-starting.ensures.margin ∙ rw e.settings refl) (rw c.round.view_is at c.leader-anchor.ensures)
