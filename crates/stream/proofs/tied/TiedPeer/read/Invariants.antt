use Rattle.std.proofs.Common.{◌≡◌}
use Rattle.std.specs.Io.KnownBytes.{Keeps}
use Rattle.stream.proofs.tied.TiedPeer.read.Given as goal

-- tries that a signal broke in on read nothing
abbrev pub invariant-loop : goal.invariant-loop
invariant-loop g l = record {
  same : l.self.output ≡ l.initial.self.output;
  kept : Keeps (g.R.Read.remaining l.initial.self.input) (g.R.Read.remaining l.self.input);
}
