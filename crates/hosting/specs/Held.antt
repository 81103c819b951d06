-- A held certificate that was read can be passed on.
use Rattle.std.specs.Prelude.{◌≡◌, true, List, ℕ}
use Rattle.terms.specs.Proposals.{content_of}
use Rattle.store.specs.Table.{content_at, endorsers_at}
use Rattle.words.specs.Proposals.{certificate_reads, certificate_in}

-- the words u can be handed to accept: they are the certificate that the table t holds of author a and round r, with the endorsers that it keeps
pub record PassesOn (t : List ℕ) (a r : ℕ) (u : List ℕ) : Type 0 where
  pub reads : certificate_reads u ≡ true
  pub proposal : content_of (certificate_in u).proposal ≡ content_at t a r
  pub endorsers : (certificate_in u).endorsers ≡ endorsers_at t a r
