use Rattle.std.proofs.Common.{sym}
use Rattle.engine.specs.Calls.{advance}
use Rattle.hosting.proofs.SettledLaws.{fits-over}
use Rattle.host.proofs.calls.advance.Goals as goal

pub put_state-requires : goal.put_state-requires
put_state-requires c = let s = c.in-Some.ensures in
    let x = rw s.1 at c.in_ok-advance.ensures in
    fits-over _ c.args.table.now advance s.0 tt (sym x.refusal) x.state
