-- What is claimed of several members' hosts, over the words that each keeps.
use Rattle.std.specs.Prelude.{◌≡◌, true, List, ℕ}
use Rattle.nonforking.specs.Statement.{engine_after}
use Rattle.earlier.specs.Refusing.{accepted_only, answering_as, WasAllowed}
use Rattle.earlier.specs.Earlier.{MembersRefuseMore}
use Rattle.library.specs.Lists.{Gives}
use Rattle.library.specs.Hosts.{Hosts, Entry, members, calls_in, words_after}

-- the calls that the list counts as, the refused ones left out, were allowed before an advance asked for a quorum, and the words of each correct member give the engine that they led to
pub record AllowedThen (R : MembersRefuseMore) (X : Hosts) (l : List Entry) : Type 0 where
  pub allowed : WasAllowed R (members X) (calls_in X l)
  pub gives : (i : ℕ) → X.correct i ≡ true
      → Gives (words_after X l i) (engine_after (answering_as R (members X))
      (accepted_only (members X) (calls_in X l)) i)
