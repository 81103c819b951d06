use Rattle.std.proofs.Common.{◌≡◌, ◌+◌, ◌-◌, arith}
use Rattle.state.proofs.Walkable.{readable}
use Rattle.votes.proofs.CheckLaws.{timely, anchor_ready}
use Rattle.votes.proofs.checks.fill_leaders.Goals as goal

pub new-chain-requires : goal.new-chain-requires
new-chain-requires c = readable _ _ c.requires.formed

pub fill_leaders-requires : goal.fill_leaders-requires
fill_leaders-requires c = let f = c.requires.formed in
    let w = timely _ _ f c.requires.in_time in
    record { from = omega (arith, w.above, c.last_round-last.ensures); to = omega (arith, f.numbers.round_to, f.settings.ceiling_to) }

pub returns : goal.returns
returns c =
    let r = c.args.state.now.round in
    let i : r - 1 + 1 ≡ r = omega (arith, (timely _ _ c.requires.formed c.requires.in_time).from) in
    let x = rw (c.round.view_is, c.new-chain.ensures.table, c.new-chain.ensures.settings, c.new-chain.ensures.blocks) at c.fill_leaders.ensures in
    anchor_ready c.requires x.leaders c.last_round-last.ensures (rw i at x.committee) x.margin
