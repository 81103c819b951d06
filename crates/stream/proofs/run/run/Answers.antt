use Rattle.std.proofs.Common.{refl, ◌∙◌, arith}
use Rattle.stream.proofs.Running.{at-start, pass_on, pass_lost, ran_too_long, over-finished, cut-finished}
use Rattle.stream.proofs.run.run.Goals as goal

pub loop-init : goal.loop-init
loop-init g c = record {
  between = rw c.new-hand.ensures.empty (at-start _ _ _ g.P.Peer.talk c.args.peer.now g.met.P.Peer.silent);
  size = c.new-hand.ensures.size;
  steady = refl;
}

pub loop-preserved : goal.loop-preserved
loop-preserved g c = record {
  between = pass_on _ _ _ _ g.met.P.Peer.joined c.loop.invariant.between (rw c.in-On.is at c.pass.ensures);
  size = c.pass.ensures.size ∙ c.loop.invariant.size;
  steady = c.pass.ensures.steady ∙ c.loop.invariant.steady;
}

pub returns-in-Lost : goal.returns-in-Lost
returns-in-Lost g c = pass_lost _ _ _ _ g.met.P.Peer.joined c.loop.invariant.between (rw c.in-Lost.is at c.pass.ensures)

pub returns-in-Over : goal.returns-in-Over
returns-in-Over g c = over-finished _ _ _ _ g.met.P.Peer.joined c.loop.invariant.between (rw c.in-Over.is at c.pass.ensures) c.finish.ensures

pub returns-in-Cut : goal.returns-in-Cut
returns-in-Cut g c = cut-finished _ _ _ _ g.met.P.Peer.joined c.loop.invariant.between (rw c.in-Cut.is at c.pass.ensures) c.finish-in-Cut.ensures

pub returns : goal.returns
returns g c = ran_too_long _ _ _ _ g.met.P.Peer.joined c.loop.invariant.between (omega (arith, c.loop-test.false, c.loop.auto.counter-end))
