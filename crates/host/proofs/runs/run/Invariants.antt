use Rattle.std.proofs.Common.{ℕ, take}
use Rattle.library.specs.Lists as library
use Rattle.host.specs.Runs.{Stand, after_run}
use Rattle.host.proofs.runs.run.Given as goal

abbrev pub invariant-loop-entry : goal.invariant-loop-entry
invariant-loop-entry l = (at : ℕ → library.Words) → Stand l.fn.hosts at → Stand l.hosts (after_run at (take l.entry-index l.entries))
