-- What every call draws from guests' queues, and what it leaves in them.
use Rattle.std.specs.Prelude.{List, []}
use Rattle.state.specs.Answers.{if_accepted}
use Rattle.queues.specs.Queues.{Queues, Draw, added, empty_queues, after_draws}
use Rattle.queues.specs.Words.{queues_of}
use Rattle.draw.specs.Draw.{draws}
use Rattle.engine.specs.Calls.{Call, opens, enqueue, draw}
use Rattle.engine.specs.Engine.{Engine, refusal_for}

-- the queues that an engine's table holds
abbrev pub queues : Engine → Queues
queues e = queues_of e.table

-- what an accepted call draws: nothing, but for a draw
abbrev pub accepted_draws : Engine → Call → List Draw
accepted_draws e (draw v) = draws e.state e.table
accepted_draws e c = []

-- a refused one draws nothing
unfoldable pub draws_of : Engine → Call → List Draw
draws_of e c = if_accepted (refusal_for e c) (accepted_draws e c) []

-- what an accepted call leaves: an open empties all queues, an enqueue adds, what a draw takes leaves its queue; the others leave them
abbrev pub accepted_queues : Engine → Call → Queues
accepted_queues e (opens own sheet) = empty_queues
accepted_queues e (enqueue g x) = added (queues e) g x
accepted_queues e (draw v) = after_draws (accepted_draws e (draw v)) (queues e)
accepted_queues e c = queues e

-- a refused one leaves them too
unfoldable pub queues_after : Engine → Call → Queues
queues_after e c = if_accepted (refusal_for e c) (accepted_queues e c) (queues e)
