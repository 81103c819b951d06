use Rattle.std.proofs.Common.{sym}
use Rattle.critical.proofs.LackLaws.{leader-low, vote_le, place, before-critical, now-critical}
use Rattle.critical.proofs.is_pivotal.Goals as goal

pub vote_of-vote-requires : goal.vote_of-vote-requires
vote_of-vote-requires c = let p = c.requires in (place p.0.passes p.1.0, rw p.0.anchor.leader (leader-low p.0.passes))

pub overflow_sub-result : goal.overflow_sub-result
overflow_sub-result c = let p = c.requires in
    let a = p.0.anchor in
    let e = rw (c.round.view_is, c.now.view_is) at c.if-round-now.true in
    rw p.0.its_votes (rw (a.leader, a.committee) (vote_le p.0.passes p.1.0.member (rw (a.leader, a.committee, e) at c.vote_of-vote.ensures)))

pub returns-then-round-now : goal.returns-then-round-now
returns-then-round-now c = let p = c.requires in
    let a = p.0.anchor in
    let e = rw (c.round.view_is, c.now.view_is) at c.if-round-now.true in
    rw (p.0.its_votes, p.0.its_bound, a.leader, a.committee, a.margin) (sym (now-critical p.0.passes p.1.0 p.1.1 e _ (rw (a.leader, a.committee, e) at c.vote_of-vote.ensures)))

pub returns-else-round-now : goal.returns-else-round-now
returns-else-round-now c = let p = c.requires in rw p.0.anchor.leader (sym (before-critical p.0.passes p.1.0 p.1.1 (rw (c.round.view_is, c.now.view_is) at c.if-round-now.false)))
