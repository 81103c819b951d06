use Rattle.std.proofs.Common.{ℕ, take}
use Rattle.library.specs.Lists as library
use Rattle.host.specs.Runs.{Stand, after_run}
use Rattle.host.specs.OwnedRuns.{AllOwned}
use Rattle.host.proofs.owned_runs.run.Given as goal

abbrev pub invariant-loop-entry : goal.invariant-loop-entry
invariant-loop-entry l = AllOwned l.hosts l.kept × ((at : ℕ → library.Words) → Stand l.fn.hosts at → Stand l.hosts (after_run at (take l.entry-index l.entries)))
