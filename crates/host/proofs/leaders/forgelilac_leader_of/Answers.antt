use Rattle.std.proofs.Common.{refl, ◌∙◌}
use Rattle.host.proofs.LeaderLaws.{leader_told}
use Rattle.host.proofs.leaders.forgelilac_leader_of.Goals as goal

pub returns : goal.returns
returns c = c.leader.ensures ∙ rw (c.weights_in.ensures, leader_told c.args.weights.now c.args.round) refl
