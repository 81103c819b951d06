use Rattle.owned.proofs.PivotLaws.{led}
use Rattle.owned.proofs.pivots.weigh.Goals as goal

pub check_anchor-requires : goal.check_anchor-requires
check_anchor-requires c = let k = c.committee-committee.ensures in
    led c.args.view.now.formed c.in_ok-check_time.ensures (rw c.round.view_is at c.committee.ensures.weights) (rw c.round.view_is at c.leader-leader.ensures) k.weights k.margin

pub new-requires-clause-anchor : goal.new-requires-clause-anchor
new-requires-clause-anchor c = let k = c.committee-committee.ensures in
    led c.args.view.now.formed c.in_ok-check_time.ensures (rw c.round.view_is at c.committee.ensures.weights) (rw c.round.view_is at c.leader-leader.ensures) k.weights k.margin
