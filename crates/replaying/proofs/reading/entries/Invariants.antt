use Rattle.std.proofs.Common.{◌≡◌, ◌++◌, ◌<◌, length}
use Rattle.std.specs.Prelude.{All}
use Rattle.library.specs.Calls.{Typed}
use Rattle.replaying.specs.Told.{told}
use Rattle.replaying.specs.Lists.{CallWhole, entries_words}
use Rattle.replaying.proofs.reading.entries.Given as goal

abbrev pub invariant-loop-rest : goal.invariant-loop-rest
invariant-loop-rest l = (l.words ≡ entries_words l.all.items ++ l.rest) × All (λ e. e.who < l.members) l.all.items
    × All (λ e. Typed (told e.call)) l.all.items × All (λ e. CallWhole e.call) l.all.items

abbrev pub decreases-loop-rest : goal.decreases-loop-rest
decreases-loop-rest l = length l.rest
