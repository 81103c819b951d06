-- Engines in memory, and what a list of calls makes of them.
use Rattle.std.specs.Prelude.{◌≡◌, ◌<◌, ◌⊎◌, true, List, [], ◌∷◌, ℕ, if◌then◌else◌, ◌==◌, length, slice_index_or}
use Rattle.runs.specs.declared.Engine.{Engine}
use Rattle.runs.specs.declared.Entry.{Entry}
use Rattle.engine.specs.Engine as engine
use Rattle.engine.specs.Engine.{after}
use Rattle.nonforking.specs.Statement as statement
use Rattle.nonforking.specs.Statement.{Members, Prefix, Knows, weights, engine_behaviour}
use Rattle.runs.specs.Calls.{told}

abbrev pub engine_of : Engine → engine.Engine
engine_of e = record { state = e.state; table = e.table.items }

-- the engines stand as at says of each
abbrev pub Stand : List Engine → (ℕ → engine.Engine) → Type 0
Stand es at = (k : ℕ) (d : Engine) → k < length es → engine_of (slice_index_or es k d) ≡ at k

-- after a call of one member
abbrev pub stepped : (ℕ → engine.Engine) → Entry → ℕ → engine.Engine
stepped at e k = if k == e.who then after (at k) (told e.call) else at k

abbrev pub after_run : (ℕ → engine.Engine) → List Entry → ℕ → engine.Engine
after_run at [] = at
after_run at (e ∷ l) = after_run (stepped at e) l

-- the entries of the statement, newest first, onto l
abbrev pub newest : List Entry → List statement.Entry → List statement.Entry
newest [] l = l
newest (e ∷ es) l = newest es (record { who = e.who; call = told e.call } ∷ l)

-- of the chains of two correct members one is a prefix of the other
abbrev pub NeverFork : Members engine_behaviour → List Engine → Type 0
NeverFork X es =
    (i j : ℕ) (d : Engine) → i < length es → j < length es → X.correct i ≡ true → X.correct j ≡ true
    → Prefix (engine_of (slice_index_or es i d)) (engine_of (slice_index_or es j d))
    ⊎ Prefix (engine_of (slice_index_or es j d)) (engine_of (slice_index_or es i d))

-- in the committee of every round that both know, every member has the same weight
abbrev pub SameCommittees : Members engine_behaviour → List Engine → Type 0
SameCommittees X es =
    (i j r : ℕ) (d : Engine) → i < length es → j < length es → X.correct i ≡ true
    → X.correct j ≡ true
    → Knows (engine_of (slice_index_or es i d)) r → Knows (engine_of (slice_index_or es j d)) r
    → (m : ℕ) → weights (engine_of (slice_index_or es i d)) r m
    ≡ weights (engine_of (slice_index_or es j d)) r m
