-- What the claims of draws with batches among the calls speak of (fairness::theorems): the moments of submissions.
use Rattle.std.specs.Prelude.{List, [], ◌∷◌, ◌++◌, None}
use Rattle.submissions.specs.Submissions.{Submission, one, batch, after_submission}
use Rattle.engine.specs.Engine.{Engine}
use Rattle.fairness.specs.Kept.{queues}
use Rattle.fairness.specs.Fairness.{Moment, moments_of}

-- the moments of a submission: those of a call; of a batch, which draws nothing, one after it
abbrev pub submission_moments : Engine → Submission → List Moment
submission_moments e (one c) = moments_of e c
submission_moments e (batch row answers) = record {
  drew = None;
  then = queues (after_submission e (batch row answers));
} ∷ []

-- of a list of submissions, oldest first
unfoldable pub moments_then : Engine → List Submission → List Moment
moments_then e [] = []
moments_then e (x ∷ l) = submission_moments e x ++ moments_then (after_submission e x) l
