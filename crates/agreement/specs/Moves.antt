-- The moves of a member: one for each accepted call that changes its view, and one for every other call.
use Rattle.std.specs.Prelude.{◌≡◌, Bool, true, false, List, ◌∷◌, ◌≢◌, ℕ, suc, Some, None}
use Rattle.agreement.specs.Rules.{Block, Chain, Rules}
use Rattle.agreement.specs.View.{View, Log}
use Rattle.agreement.specs.Dag.{Closed}
use Rattle.agreement.specs.Places.{put, mark}
use Rattle.agreement.specs.Links.{Link, ReachesLast, LastElected}
use Rattle.agreement.specs.Invariants.{Signable, Certified}

-- the view after each move
module _ {R : Rules} (s : View R) where
  open R use {P}

  abbrev pub after_propose : P → View R
  after_propose p = record s { proposal = Some p }

  abbrev pub after_endorse : P → View R
  after_endorse p = record s { endorsed = mark R true p s.endorsed }

  abbrev pub after_certify : P → View R
  after_certify p = record s { dag = put R p s.dag }

  abbrev pub after_accept : P → View R
  after_accept p = record s { dag = put R p s.dag; endorsed = mark R false p s.endorsed }

  abbrev pub after_advance : View R
  after_advance = record s { round = suc s.round; proposal = None }

  abbrev pub after_commit : Chain P → View R
  after_commit c = record s { chain = c }

  -- the chains that a commit may make; that the first new block's anchor reaches the last old one is not asked, it follows from the votes
  pub data Extension : Chain P → Type 0 where
    first_block : {b : Block P} {x : P} → Link s b s.chain x → Extension (b ∷ s.chain)
    next_block : {b : Block P} {c : Chain P} {x : P} → Link s b c x → ReachesLast s c x
        → Extension c → Extension (b ∷ c)

module _ {R : Rules} (correct : ℕ → Bool) (G : Log R) (k : ℕ) (s : View R) (l : List R.P) where
  open R use {P, author, round}

  -- the place of p is free
  abbrev Free : P → Type 0
  Free p = s.dag (author p) (round p) ≡ None

  -- from the view s of member k, who signed l, where everybody signed G: the view after, and what the member has signed then
  pub data Move : View R → List P → Type 0 where
    other_call : Move s l
    propose : (p : P) → author p ≡ k → round p ≡ s.round → s.proposal ≡ None → Signable s p
        → Move (after_propose s p) (p ∷ l)
    endorse : (p : P) → author p ≢ k → s.endorsed (author p) (round p) ≡ false → Free p
        → Signable s p → Move (after_endorse s p) (p ∷ l)
    certify : (p : P) → s.proposal ≡ Some p → Free p → Certified correct G s p
        → Move (after_certify s p) l
    accept : (p : P) → Free p → Closed s p → Certified correct G s p → Move (after_accept s p) l
    advance : Move (after_advance s) l
    commit : (c : Chain P) → Extension s c → LastElected s c → Move (after_commit s c) l
