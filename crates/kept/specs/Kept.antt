-- What a held certificate keeps over every list of requests on one engine, and what the read shows of it.
use Rattle.std.specs.Prelude.{List, [], ◌∷◌, ◌++◌, ℕ}
use Rattle.base.specs.Options.{if_there}
use Rattle.terms.specs.Proposals.{Content}
use Rattle.engine.specs.Calls.{Call}
use Rattle.engine.specs.Engine.{Engine}
use Rattle.engine.specs.Sequences.{AllInRange}
use Rattle.nonforking.specs.Stored.{Stored}
use Rattle.submissions.specs.Submissions.{calls_of}
use Rattle.submissions.specs.Requests.{Request, submission_of, after_requests}

-- the calls that a list of requests counts as, newest first: of a batch the accepts of its turns, of what is refused by rights none
unfoldable pub calls_asked : Engine → List Request → List Call
calls_asked e [] = []
calls_asked e (x ∷ l) =
    if_there (submission_of (after_requests e l) x) [] (calls_of (after_requests e l))
    ++ calls_asked e l

-- with values of their types
abbrev pub AskedInRange : Engine → List Request → Type 0
AskedInRange e l = AllInRange (calls_asked e l)

-- an accepted certify or accept among them took the certificate of p with the endorsers d, in a batch or alone, and no open was accepted since
abbrev pub StoredThen : Engine → List Request → Content → ℕ → Type 0
StoredThen e l p d = Stored e (calls_asked e l) p d
