-- What a held certificate keeps, and what the certificate read shows of it: the proposal and the endorsers that it was stored with.
use Rattle.std.specs.Prelude.{◌≡◌, true, List, [], ◌∷◌, ◌⊎◌, ℕ, ◌<◌}
use Rattle.terms.specs.Proposals.{Content, content_of}
use Rattle.store.specs.Table.{held_at, endorsers_at, content_at}
use Rattle.reads.specs.Reads.{certificate_refusal}
use Rattle.reads.specs.Held.{certificate_read}
use Rattle.engine.specs.Calls.{Call}
use Rattle.engine.specs.Engine.{Engine, refusal_for}
use Rattle.engine.specs.Sequences.{after_calls, NoOpen}
use Rattle.nonforking.specs.Statement.{Takes}

-- the table t holds the certificate of author a and round r, with its proposal p and its endorsers d; rounds are from 1, and row 0 holds no certificates
pub record Holds (t : List ℕ) (a r : ℕ) (p : Content) (d : ℕ) : Type 0 where
  pub from : 0 < r
  pub held : held_at t a r ≡ true
  pub proposal : content_at t a r ≡ p
  pub endorsers : endorsers_at t a r ≡ d

-- an accepted certify or accept of the list, newest first, took the certificate of p with the endorsers d, and no open was accepted since
abbrev pub Stored : Engine → List Call → Content → ℕ → Type 0
Stored e [] p d = ⊥
Stored e (c ∷ l) p d = ((refusal_for (after_calls e l) c ≡ 0) × Takes (after_calls e l) c p d)
    ⊎ (NoOpen (after_calls e l) c × Stored e l p d)

-- the certificate read of author a and round r is accepted, and gives the proposal p and the endorsers d
pub record Shows (e : Engine) (a r : ℕ) (p : Content) (d : ℕ) : Type 0 where
  pub accepted : certificate_refusal e.state e.table a r ≡ 0
  pub proposal : content_of (certificate_read e.state e.table a r).proposal ≡ p
  pub endorsers : (certificate_read e.state e.table a r).endorsers ≡ d
