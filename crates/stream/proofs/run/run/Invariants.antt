use Rattle.std.proofs.Common.{◌≡◌, length}
use Rattle.stream.proofs.Running.{Between}
use Rattle.stream.proofs.run.run.Given as goal

abbrev pub invariant-loop : goal.invariant-loop
invariant-loop g l = record {
  between : Between g.E.Engine.after g.E.Engine.answer l.fn.engine g.P.Peer.talk l.fn.peer l.engine l.hand.here l.peer l.counter;
  size : l.hand.size ≡ length l.fn.buffer;
  steady : g.E.Engine.most l.engine ≡ g.E.Engine.most l.fn.engine;
}
