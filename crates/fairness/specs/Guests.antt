-- What the claims of guests' own requests and the queues speak of (fairness::theorems): what is left of a queue, and the moments of requests (docs/RULES.md, "Rights").
use Rattle.std.specs.Prelude.{◌≡◌, List, [], ◌∷◌, ◌++◌, None}
use Rattle.base.specs.Options.{if_there}
use Rattle.terms.specs.declared.Transaction.{Transaction}
use Rattle.submissions.specs.Requests.{Request, result_of, submission_of}
use Rattle.engine.specs.Engine.{Engine}
use Rattle.fairness.specs.Kept.{queues}
use Rattle.fairness.specs.Fairness.{Moment}
use Rattle.fairness.specs.Batches.{submission_moments}

-- what is left of a queue, its oldest gone and nothing added
abbrev pub LeftOf : List Transaction → List Transaction → Type 0
LeftOf a b = (gone : List Transaction) × (a ≡ gone ++ b)

-- the moments of a request: those of what it submits; one where the caller is refused
abbrev pub request_moments : Engine → Request → List Moment
request_moments e x =
    if_there (submission_of e x) (record { drew = None; then = queues e } ∷ [])
    (submission_moments e)

-- of a list of requests, oldest first
unfoldable pub moments_asked : Engine → List Request → List Moment
moments_asked e [] = []
moments_asked e (x ∷ l) = request_moments e x ++ moments_asked (result_of e x).engine l
