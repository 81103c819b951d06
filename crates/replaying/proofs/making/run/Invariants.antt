use Rattle.std.proofs.Common.{◌≡◌, ℕ, take}
use Rattle.library.specs.Lists as library
use Rattle.replaying.specs.Runs.{AllOwned, Stand, after_run, answers_of}
use Rattle.replaying.proofs.making.run.Given as goal

abbrev pub invariant-loop-i : goal.invariant-loop-i
invariant-loop-i l =
    AllOwned l.keepers
    × ((at : ℕ → library.Words) → Stand l.fn.keepers at
    → Stand l.keepers (after_run at (take l.i l.entries)) × (take l.i l.answers ≡ answers_of at (take l.i l.entries)))
