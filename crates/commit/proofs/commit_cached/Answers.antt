use Rattle.std.proofs.Common.{sym}
use Rattle.commit.proofs.MadeLaws.{passed, made}
use Rattle.commit.proofs.commit_cached.Goals as goal

pub overflow_sub-added : goal.overflow_sub-added
overflow_sub-added c = let x = c.in_ok-check.ensures in
    (made (passed c.in_ok-known.ensures.ok x.refusal x.leaders) c.last_round-last.ensures (rw c.round.view_is at c.commit_blocks-state.ensures)).more

pub returns : goal.returns
returns c = let x = c.in_ok-check.ensures in
    let p = passed c.in_ok-known.ensures.ok x.refusal x.leaders in
    let m = made p c.last_round-last.ensures (rw c.round.view_is at c.commit_blocks-state.ensures) in
    record { refusal = sym p.accepted; value = m.added; state = m.state; table = m.table; ruled = m.ruled }
