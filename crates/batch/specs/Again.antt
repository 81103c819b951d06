-- Straight after a batch: a certificate that got 11 gets 11 again, or 17 where the row has since filled its place with another.
use Rattle.std.specs.Prelude.{◌≡◌, true, false, if◌then◌else◌, List, ℕ, ◌<◌, Some}
use Rattle.terms.specs.declared.Certificate.{Certificate}
use Rattle.terms.specs.Proposals.{content_of, same_proposal}
use Rattle.store.specs.Table.{held_at, content_at}
use Rattle.state.specs.declared.State.{State}
use Rattle.accept.specs.Accept.{accept_refusal}
use Rattle.batch.specs.Order.{earlier}
use Rattle.batch.specs.Batch.{Row, key_of, tried_table, answer_at}

-- a certificate that can be read is tried by its own round and author, and its sets are 16-bit numbers
pub record RowReads (row : Row) : Type 0 where
  pub keyed : (p : ℕ) (c : Certificate) → (row.at p).certificate ≡ Some c
      → (row.at p).key ≡ key_of c
  pub previous : (p : ℕ) (c : Certificate) → (row.at p).certificate ≡ Some c
      → c.proposal.body.previous < 65536
  pub endorsers : (p : ℕ) (c : Certificate) → (row.at p).certificate ≡ Some c → c.endorsers < 65536

module _ (s : State) (row : Row) (t : List ℕ) where
  -- d stands in the row at place i, whose turn is later than that of q, was accepted there, and is held at the end; it is another proposal than c
  pub record FilledBy (q : ℕ) (c : Certificate) (i : ℕ) (d : Certificate) : Type 0 where
    pub place : i < row.count
    pub offered : (row.at i).certificate ≡ Some d
    pub later : earlier (λ p. (row.at p).key) q i ≡ true
    pub accepted : answer_at s row t i ≡ 0
    pub same_author : d.proposal.author.0 ≡ c.proposal.author.0
    pub same_round : d.proposal.round ≡ c.proposal.round
    pub held : content_at (tried_table s row t) c.proposal.author.0 c.proposal.round
        ≡ content_of d.proposal
    pub another : same_proposal (content_of c.proposal) (content_of d.proposal) ≡ false

  -- c, offered again on the table that the batch left, gets 17 exactly where its place is held then, by another of the row, and 11 else
  pub record AgainAs (q : ℕ) (c : Certificate) : Type 0 where
    pub number : accept_refusal s (tried_table s row t) c
        ≡ (if held_at (tried_table s row t) c.proposal.author.0 c.proposal.round
        then 17 else 11)
    pub filled : held_at (tried_table s row t) c.proposal.author.0 c.proposal.round ≡ true
        → (i : ℕ) × (d : Certificate) × FilledBy q c i d
