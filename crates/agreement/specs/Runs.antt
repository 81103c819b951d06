-- Runs: lists of moves of correct members, in which the faulty members stay within the bound.
use Rattle.std.specs.Prelude.{◌≡◌, Bool, true, [], ◌≢◌, ℕ, None}
use Rattle.agreement.specs.Rules.{Rules}
use Rattle.agreement.specs.View.{View, World, Log}
use Rattle.agreement.specs.Invariants.{FaultTolerant}
use Rattle.agreement.specs.Moves.{Move}

-- a member that has done nothing
pub record Initial {R : Rules} (s : View R) : Type 0 where
  pub without_proposal : s.proposal ≡ None
  pub no_certificate : (a r : ℕ) → s.dag a r ≡ None
  pub no_block : s.chain ≡ []

module _ {R : Rules} (correct : ℕ → Bool) where
  -- where a run starts: no correct member has done anything
  abbrev pub Start : World R → Type 0
  Start w = (j : ℕ) → correct j ≡ true → Initial (w j)

  -- one correct member makes a move, and the others stay
  pub record Next (w : World R) (G : Log R) (v : World R) (H : Log R) : Type 0 where
    pub who : ℕ
    pub good : correct who ≡ true
    pub move : Move correct G who (w who) (G who) (v who) (H who)
    pub rest : (i : ℕ) → i ≢ who → v i ≡ w i
    pub silent : (i : ℕ) → i ≢ who → H i ≡ G i

  -- any number of moves from one world and log to another, with the bound on the faulty members after each
  pub data Run (w : World R) (G : Log R) : World R → Log R → Type 0 where
    begin : Run w G w G
    step : {v u : World R} {H K : Log R} → Run w G v H → Next v H u K
        → FaultTolerant correct u → Run w G u K
