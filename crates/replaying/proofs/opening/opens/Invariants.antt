use Rattle.std.proofs.Common.{◌≡◌, ◌<◌, ℕ, length}
use Rattle.replaying.specs.Runs.{AllOwned, Stand}
use Rattle.replaying.specs.Opened.{opened, Opens}
use Rattle.replaying.proofs.opening.opens.Given as goal

abbrev pub invariant-loop-own : goal.invariant-loop-own
invariant-loop-own l =
    (length l.all.items ≡ l.own) × Stand l.all.items (opened l.head)
    × ((k : ℕ) → k < l.own → Opens l.head k) × AllOwned l.all.items
