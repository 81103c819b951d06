-- What a stream of records does to an engine, record by record: none is an unreadable one.
use Rattle.std.specs.Prelude.{List, ℕ, Option}
use Rattle.engine.specs.Engine.{Engine}
use Rattle.framing.specs.Streams.{readables}
use Rattle.stream.specs.Answers.{answers}
use Rattle.replies.specs.Asked.{call_in}
use Rattle.replies.specs.Records.{served_engine, served_lines}

-- the engine after a record
abbrev pub engine_after : Engine → Option (List ℕ) → Engine
engine_after e b = served_engine e (call_in b)

-- the lines that answer it
abbrev pub lines_after : Engine → Option (List ℕ) → List ℕ
lines_after e b = served_lines e (call_in b)

-- the lines that answer them
abbrev pub answers_to : Engine → List (Option (List ℕ)) → List ℕ
answers_to = answers engine_after lines_after

-- the output for a stream of bytes
abbrev pub output : Engine → List ℕ → List ℕ
output e bytes = answers_to e (readables bytes)
