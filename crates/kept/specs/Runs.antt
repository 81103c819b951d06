-- What is claimed of runs, where members ask by batches and guests' requests too.
use Rattle.std.specs.Prelude.{◌≡◌, List, ℕ}
use Rattle.agreement.specs.Entries as entries
use Rattle.nonforking.specs.Statement.{Members, Entry, engine_after, engine_behaviour}
use Rattle.submissions.specs.Submissions.{unrolled}
use Rattle.submissions.specs.Requests.{Request, engine_asked, submitted}
use Rattle.earlier.specs.Refusing.{accepted_only, answering_as, WasAllowed}
use Rattle.earlier.specs.Earlier.{MembersRefuseMore}

-- the calls that members' requests count as
abbrev pub counted : Members engine_behaviour → List (entries.Entry Request) → List Entry
counted X l = unrolled X (submitted X l)

-- the calls that the requests l count as, the refused ones left out, were allowed before an advance asked for a quorum, and led to the same engines
pub record AllowedThen (R : MembersRefuseMore) (X : Members engine_behaviour)
    (l : List (entries.Entry Request)) : Type 0 where
  pub allowed : WasAllowed R X (counted X l)
  pub engines : (i : ℕ) → engine_after (answering_as R X) (accepted_only X (counted X l)) i
      ≡ engine_asked X l i
