-- What the read of a certificate gives.
use Rattle.std.specs.Prelude.{List, ℕ, Option, Some, None}
use Rattle.terms.specs.declared.Proposal.{Proposal}
use Rattle.terms.specs.Proposals.{Content}
use Rattle.store.specs.Table.{endorsers_at, proposal_of}
use Rattle.rules.specs.Reads.{block_number}
use Rattle.state.specs.declared.State.{State}
use Rattle.state.specs.View.{view}
use Rattle.state.specs.States.{no_body}
use Rattle.reads.specs.declared.Held.{Held}

-- no proposal, of nobody and no round
abbrev pub no_proposal : Proposal
no_proposal = record { author = record { 0 = 0 }; round = 0; body = no_body }

-- a certificate as it is handed out, nothing where there is none
abbrev pub proposal_shown : Option Content → Proposal
proposal_shown None = no_proposal
proposal_shown (Some p) = proposal_of p

-- the proposal, the endorsers that it was stored with, and the number of its block, 0 for none
unfoldable pub certificate_read : State → List ℕ → ℕ → ℕ → Held
certificate_read s t m r = record {
  proposal = proposal_shown ((view s t).dag m r);
  endorsers = endorsers_at t m r;
  block = block_number (view s t).chain m r;
}
