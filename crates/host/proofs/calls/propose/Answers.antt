use Rattle.std.proofs.Common.{sym}
use Rattle.words.specs.Bodies.{body_in}
use Rattle.engine.specs.Calls.{propose}
use Rattle.hosting.proofs.HandedLaws.{propose-handed}
use Rattle.hosting.proofs.SettledLaws.{fits-over}
use Rattle.host.proofs.calls.propose.Goals as goal

pub put_state-requires : goal.put_state-requires
put_state-requires c = let s = c.in-Some.ensures in
    let b = c.in-Some-body.ensures in
    let x = rw (s.1, b.1) at c.in_ok-propose.ensures in
    fits-over _ c.args.table.now (propose (body_in c.args.body.now 0)) s.0 ((propose-handed _).is_in_range b.0) (sym x.refusal) x.state
