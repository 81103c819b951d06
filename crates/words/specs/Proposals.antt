-- A proposal as sixteen words: author, round, body. A certificate as seventeen: proposal, endorsers.
use Rattle.std.specs.Prelude.{Bool, ◌&&◌, List, [], ◌∷◌, ◌++◌, ℕ, length, nat_le, nat_lt}
use Rattle.terms.specs.declared.Proposal.{Proposal}
use Rattle.terms.specs.declared.Certificate.{Certificate}
use Rattle.words.specs.declared.places.TheConstants.{PROPOSAL_AUTHOR, PROPOSAL_ROUND, PROPOSAL_BODY}
use Rattle.words.specs.Lengths.{proposal_length, certificate_length}
use Rattle.words.specs.Words.{word}
use Rattle.words.specs.Bodies.{body_reads, body_in, body_words}

unfoldable pub proposal_reads : List ℕ → Bool
proposal_reads w = nat_le proposal_length (length w) && body_reads w PROPOSAL_BODY

unfoldable pub proposal_in : List ℕ → Proposal
proposal_in w = record {
  author = record { 0 = word w PROPOSAL_AUTHOR };
  round = word w PROPOSAL_ROUND;
  body = body_in w PROPOSAL_BODY;
}

unfoldable pub certificate_reads : List ℕ → Bool
certificate_reads w = nat_le certificate_length (length w) && (nat_lt (word w proposal_length) 65536
    && proposal_reads w)

unfoldable pub certificate_in : List ℕ → Certificate
certificate_in w = record { proposal = proposal_in w; endorsers = word w proposal_length }

-- a held certificate as it is read: the seventeen words of the certificate, then the number of its block
unfoldable pub held_words : Proposal → ℕ → ℕ → List ℕ
held_words p endorsers block = (p.author.0 ∷ p.round ∷ []) ++ body_words p.body
    ++ (endorsers ∷ block ∷ [])
