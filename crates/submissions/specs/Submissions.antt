-- Lists of calls and batches: for chains, a batch counts as that many single calls.
use Rattle.std.specs.Prelude.{◌≡◌, if◌then◌else◌, List, [], ◌∷◌, ◌++◌, ℕ, length, ◌==◌}
use Rattle.base.specs.Options.{if_there}
use Rattle.agreement.specs.Entries as entries
use Rattle.agreement.specs.Entries.{states}
use Rattle.engine.specs.Calls.{Call, opens, accept}
use Rattle.engine.specs.Engine.{Engine, after}
use Rattle.batch.specs.Batch.{Row, turns_of, batch_refusal, batch_table}
use Rattle.nonforking.specs.Statement.{Members, Entry, engine_after, engine_behaviour, Agreed}

-- what a host hands to its engine at once: a call, or a row of certificates with the answers lent for it
pub data Submission : Type 0 where
  one : Call → Submission
  batch : Row → List ℕ → Submission

-- what it leaves, as the contracts tell it
abbrev pub after_submission : Engine → Submission → Engine
after_submission e (one c) = after e c
after_submission e (batch row answers) = record {
  state = e.state;
  table = batch_table e.state e.table row answers;
}

-- the accepts of places of a row, newest first; words that cannot be read are no call
unfoldable pub accepts_of : Row → List ℕ → List Call
accepts_of row [] = []
accepts_of row (p ∷ l) = accepts_of row l ++ if_there (row.at p).certificate [] (λ c. accept c ∷ [])

-- the calls that a submission counts as, newest first: of a refused batch none
abbrev pub calls_of : Engine → Submission → List Call
calls_of e (one c) = c ∷ []
calls_of e (batch row answers) =
    if batch_refusal e.state e.table row.count (length answers) == 0
    then accepts_of row (turns_of row) else []

-- the calls of one member as entries of a list
abbrev pub entries_of : ℕ → List Call → List Entry
entries_of k [] = []
entries_of k (c ∷ l) = record { who = k; call = c } ∷ entries_of k l

module _ (X : Members engine_behaviour) where
  open X use {before, sheet}

  -- member i's engine after a list of submissions, newest first
  abbrev pub engine_then : List (entries.Entry Submission) → ℕ → Engine
  engine_then l i =
      states (λ k. after_submission) (λ k. after (before k) (opens (record { 0 = k }) (sheet k))) l
      i

  -- the list with the calls that each submission counts as
  unfoldable pub unrolled : List (entries.Entry Submission) → List Entry
  unrolled [] = []
  unrolled (x ∷ l) = entries_of x.who (calls_of (engine_then l x.who) x.call) ++ unrolled l

-- chains never fork with batches as entries: premises and claim are those of the unrolled list, and each member's engine is the one after it
pub record AgreedThen (X : Members engine_behaviour) (l : List (entries.Entry Submission)) : Type 0
  where
    pub agreed : Agreed X (unrolled X l)
    pub engines : (i : ℕ) → engine_then X l i ≡ engine_after X (unrolled X l) i
