use Rattle.std.proofs.Common.{arith}
use Rattle.chain_committees.proofs.StartLaws.{start_le, start_led}
use Rattle.chain_committees.proofs.cache.start_of.Goals as goal

pub returns : goal.returns
returns c = let a = c.args.chain in
    let e = start_led a.told c.requires.before c.block_round-round.ensures (omega arith) c.cached_at-committee.ensures.weights c.leader.ensures in
    (e, rw e (start_le a.settings.now a.table.now c.args.before))
