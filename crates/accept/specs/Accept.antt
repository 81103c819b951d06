-- Accept on a state and its table: the number that refuses, and the table. Held with its endorsers, and its endorsed mark cleared.
use Rattle.std.specs.Prelude.{List, ℕ}
use Rattle.terms.specs.declared.Certificate.{Certificate}
use Rattle.terms.specs.Proposals.{content_of}
use Rattle.store.specs.Writes.{put_certificate, clear_endorsed}
use Rattle.rules.specs.Calls as rules
use Rattle.state.specs.declared.State.{State}
use Rattle.state.specs.Refusals.{refusal_of}
use Rattle.state.specs.Answers.{if_accepted}

module _ (s : State) (t : List ℕ) where
  unfoldable pub accept_refusal : Certificate → ℕ
  accept_refusal c = refusal_of s t (rules.accept (content_of c.proposal) c.endorsers)

  unfoldable pub accept_table : Certificate → List ℕ
  accept_table c =
      if_accepted (accept_refusal c)
      (clear_endorsed (put_certificate t (content_of c.proposal) c.endorsers)
      c.proposal.author.0 c.proposal.round) t
