-- What holds of each correct member in every world of a run.
use Rattle.std.specs.Prelude.{◌≡◌, Bool, true, List, ◌⊎◌, ◌≢◌, ℕ, suc, ◌<◌, Some}
use Rattle.agreement.specs.Rules.{Rules}
use Rattle.agreement.specs.Laws.{Lawful}
use Rattle.agreement.specs.View.{View, Knows, World, Log, Among}
use Rattle.agreement.specs.Dag.{Held, Closed}
use Rattle.agreement.specs.Quorum.{Quorum, Tolerant}
use Rattle.agreement.specs.Links.{Linked, LastElected}
use Rattle.agreement.specs.Prefixes.{Comparable}

module _ {R : Rules} (s : View R) where
  open R use {P, author, round, names, committee}

  -- whom p names is a quorum of the round before, with somebody in it
  pub record PreviousQuorum (p : P) : Type 0 where
    pub before : ℕ
    pub follows : round p ≡ suc before
    pub aware : Knows s before
    pub quorum : Quorum R (committee s.chain before) (names p)
    pub someone : ℕ
    pub named : names p someone ≡ true

  -- what a member checks of a proposal before it signs
  pub record Signable (p : P) : Type 0 where
    pub closed : Closed s p
    pub previous : (round p ≡ 1) ⊎ PreviousQuorum p

  -- what member k signed, all of the list l
  pub record Signing (k : ℕ) (l : List P) : Type 0 where
    -- at one place it signed one proposal
    pub nonequivocation : (p q : P) → Among p l → Among q l → author p ≡ author q
        → round p ≡ round q → p ≡ q
    -- it checked what it signed
    pub signable : (p : P) → Among p l → Signable p
    -- it has a record of what it signed: of its own, the proposal of the present round; of others, the mark or the certificate
    pub own : (p : P) → Among p l → author p ≡ k
        → (round p < s.round) ⊎ ((round p ≡ s.round) × (s.proposal ≡ Some p))
    pub other : (p : P) → Among p l → author p ≢ k
        → (s.endorsed (author p) (round p) ≡ true)
        ⊎ ((q : P) × (s.dag (author p) (round p) ≡ Some q))
    pub proposed : (p : P) → s.proposal ≡ Some p → Among p l × (author p ≡ k) × (round p ≡ s.round)

  -- the chain's blocks hang together, and the newest was elected
  pub record Ordering : Type 0 where
    pub linked : Linked s s.chain
    pub elected : LastElected s s.chain

module _ {R : Rules} (correct : ℕ → Bool) (G : Log R) where
  open R use {P, author, round, committee}

  -- a quorum with the author in it stands behind p, and its correct members signed p
  pub record Certified (s : View R) (p : P) : Type 0 where
    pub aware : Knows s (round p)
    pub signers : ℕ → Bool
    pub quorum : Quorum R (committee s.chain (round p)) signers
    pub with_author : signers (author p) ≡ true
    pub signs : (i : ℕ) → correct i ≡ true → signers i ≡ true → Among p (G i)

  -- the certificates that a member holds are at their places, closed and certified
  pub record Storing (s : View R) : Type 0 where
    pub place : {a r : ℕ} {p : P} → s.dag a r ≡ Some p → (author p ≡ a) × (round p ≡ r)
    pub closed : {a r : ℕ} {p : P} → s.dag a r ≡ Some p → Closed s p
    pub certified : {a r : ℕ} {p : P} → s.dag a r ≡ Some p → Certified s p

  -- what holds of member k, who signed l
  pub record Invariant (k : ℕ) (s : View R) (l : List P) : Type 0 where
    pub signing : Signing s k l
    pub storing : Storing s
    pub ordering : Ordering s

module _ {R : Rules} (correct : ℕ → Bool) (w : World R) where
  open R use {P, round, committee}

  -- for each certificate that a correct member holds, the faulty members weigh at most the bound in the committee of its round
  abbrev pub FaultTolerant : Type 0
  FaultTolerant = (j : ℕ) (p : P) → correct j ≡ true → Held (w j) p → Knows (w j) (round p)
      → Tolerant R correct (committee (w j).chain (round p))

  -- of two correct members' chains one is a prefix of the other
  abbrev pub Agree : Type 0
  Agree = (i j : ℕ) → correct i ≡ true → correct j ≡ true → Comparable (w i).chain (w j).chain

  -- what holds in every world of a run; the parts need one another, so they are proved in one induction
  pub record Sound (G : Log R) : Type 0 where
    pub laws : Lawful R
    pub members : (j : ℕ) → correct j ≡ true → Invariant correct G j (w j) (G j)
    pub tolerant : FaultTolerant
    pub agree : Agree
