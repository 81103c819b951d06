-- What words that can be read give: they are long enough, and their sets are sets of members.
use Rattle.std.proofs.Common.{◌≡◌, Bool, true, false, cond, List, ℕ, ◌<◌, ◌≤◌, arith, length, eqb, leb, ltb, leb-true, ltb-true}
use Rattle.base.proofs.Bools.{both}
use Rattle.std.specs.Prelude.{Some, None, unwrap_or}
use Rattle.state.specs.States.{no_body, own_body}
use Rattle.words.specs.Lengths.{state_length, body_length, proposal_length, certificate_length}
use Rattle.words.specs.Words.{word}
use Rattle.words.specs.Bodies.{body_reads, lone_body_reads, body_in}
use Rattle.words.specs.Proposals.{proposal_reads, proposal_in, certificate_reads, certificate_in}
use Rattle.words.specs.States.{state_reads, own_proposal_in, state_in}

-- words that are read as a state
pub record StateRead (w : List ℕ) : Type 0 where
  pub long : state_length ≤ length w
  pub set : (own_body (state_in w)).previous < 65536

module _ (w : List ℕ) where
  body-set : (a : ℕ) → body_reads w a ≡ true → (body_in w a).previous < 65536
  unfolding body_reads body_in
  body-set a e = ltb-true (word w a) 65536 (both (ltb (word w a) 65536) _ e).0

  pub lone_body_read : lone_body_reads w ≡ true → (body_in w 0).previous < 65536
  unfolding lone_body_reads
  lone_body_read e = body-set 0 (both (leb body_length (length w)) _ e).1

  pub proposal-read : proposal_reads w ≡ true → (proposal_in w).body.previous < 65536
  unfolding proposal_reads proposal_in
  proposal-read e = body-set 2 (both (leb proposal_length (length w)) _ e).1

  pub certificate-read : certificate_reads w ≡ true → ((certificate_in w).proposal.body.previous < 65536) × ((certificate_in w).endorsers < 65536)
  unfolding certificate_reads certificate_in
  certificate-read e =
      let q = both (ltb (word w proposal_length) 65536) _ (both (leb certificate_length (length w)) _ e).1 in
      (proposal-read q.1, ltb-true (word w proposal_length) 65536 q.0)

  own_set : (b : Bool) → cond b true (body_reads w 23) ≡ true → (unwrap_or (cond b None (Some (body_in w 23))) no_body).previous < 65536
  own_set true e = omega arith
  own_set false e = body-set 23 e

  pub state-read : state_reads w ≡ true → StateRead w
  unfolding state_reads state_in own_proposal_in
  state-read e =
      let p = both (leb state_length (length w)) _ e in
      record { long = leb-true state_length (length w) p.0; set = own_set (eqb (word w 21) 0) (both (leb (word w 21) 1) _ p.1).1 }
