-- What is claimed of every list of calls: chains never fork (docs/RULES.md, "What is claimed of runs").
use Rattle.std.specs.Prelude.{◌≡◌, Bool, true, List, [], ◌∷◌, ◌++◌, ◌⊎◌, ◌≢◌, ℕ, ◌≤◌}
use Rattle.base.specs.Sets.{contains}
use Rattle.agreement.specs.Weights.{weigh, total, outside}
use Rattle.agreement.specs.Rules.{Chain}
use Rattle.agreement.specs.Listing.{listing}
use Rattle.agreement.specs.Entries as entries
use Rattle.agreement.specs.Entries.{states}
use Rattle.terms.specs.declared.Member.{Member}
use Rattle.terms.specs.declared.Body.{Body}
use Rattle.terms.specs.declared.Proposal.{Proposal}
use Rattle.terms.specs.declared.Certificate.{Certificate}
use Rattle.terms.specs.Proposals.{Content, content_with, content_of}
use Rattle.terms.specs.declared.sheet.Sheet.{Sheet}
use Rattle.terms.specs.declared.sheet.Settings.{Settings}
use Rattle.terms.specs.Sheets.{filled}
use Rattle.terms.specs.Ranges.{weight_in}
use Rattle.committee.specs.Committees.{committee_of, ordered, known_by, bound_of}
use Rattle.committee.specs.Chain.{chain_of}
use Rattle.draw.specs.Draw.{drawn_body}
use Rattle.engine.specs.Calls.{Call, opens, propose, endorse, certify, accept, draw, InRange}
use Rattle.engine.specs.Engine as engine
use Rattle.engine.specs.Engine.{Engine, refusal_for}
use Rattle.state.specs.States.{own_body}

-- ---- what an engine shows

-- its chain, newest block first: the blocks that the table tells
abbrev pub chain : Engine → Chain Content
chain e = chain_of e.state.settings.ceiling e.table e.state.blocks

-- its chain as it is listed, oldest block first: each with its block round and its certificates in the block's order: by round, and within a round numbers rise from that of the leader of the block's round, with 0 after 15
abbrev pub listed : Engine → List (ℕ × List Content)
listed e = listing (ordered e.state.settings) (chain e)

-- its chain is a prefix of that of d, which lists the same blocks with the same certificates in the same order, and perhaps more
abbrev pub Prefix : Engine → Engine → Type 0
Prefix e d = (more : List (ℕ × List Content)) × (listed d ≡ listed e ++ more)

-- it knows round r: r is at most the lookback, or the bonded committee of r minus lookback is known by its chain
abbrev pub Knows : Engine → ℕ → Type 0
Knows e r = known_by e.state.settings (chain e) r ≡ true

-- the weight of each member in the committee of round r, 0 for a non-member
abbrev pub weights : Engine → ℕ → ℕ → ℕ
weights e r = weight_in (committee_of e.state.settings (chain e) r)

-- what it proposes with a body: author and round are its own
abbrev pub draft : Engine → Body → Content
draft e b = content_with e.state.own.0 e.state.round b

-- ---- members, and lists of their calls

-- how engines answer: the number that a call is refused with, 0 for none, and what it leaves
pub record Behaviour : Type 0 where
  pub refusal : Engine → Call → ℕ
  pub after : Engine → Call → Engine

-- the members at the start
pub record Members (B : Behaviour) : Type 0 where
  -- any set of numbers may be the correct members (open refuses a number above 15); every other number is faulty
  pub correct : ℕ → Bool
  -- each correct member has opened with its own number and a sheet, on whatever state and table were there; those of other numbers mean nothing
  pub before : ℕ → Engine
  pub sheet : ℕ → Sheet
  pub accepted : (k : ℕ) → correct k ≡ true
      → B.refusal (before k) (opens (record { 0 = k }) (sheet k)) ≡ 0
  -- the filled settings are equal
  pub settings : Settings
  pub equal : (k : ℕ) → correct k ≡ true → filled (sheet k) ≡ settings

-- one call of one member
abbrev pub Entry : Type 0
Entry = entries.Entry Call

-- the certificate that a certify makes or an accept hands in: its proposal and its endorsers
pub data Takes (e : Engine) : Call → Content → ℕ → Type 0 where
  certifies : (d : ℕ) → Takes e (certify d) (draft e (own_body e.state)) d
  accepts : (c : Certificate) → Takes e (accept c) (content_of c.proposal) c.endorsers

-- the call is a propose of p: of a body that is handed in, or of what is drawn from guests' queues
pub data Proposes (e : Engine) : Call → Content → Type 0 where
  proposes : (b : Body) → Proposes e (propose b) (draft e b)
  draws : (v : ℕ) → Proposes e (draw v) (draft e (drawn_body e.state e.table v))

-- the call is an endorse of p
pub data Endorses : Call → Content → Type 0 where
  endorses : (p : Proposal) → Endorses (endorse p) (content_of p)

module _ {B : Behaviour} (X : Members B) where
  open B use {refusal, after}
  open X use {correct, before, sheet, settings}

  -- member i's engine after a list of entries, newest first: each call gets what the member's last one left
  abbrev pub engine_after : List Entry → ℕ → Engine
  engine_after l i =
      states (λ k. after) (λ k. after (before k) (opens (record { 0 = k }) (sheet k))) l i

  -- the list has an accepted call of member i for which f holds
  abbrev pub Made : (Engine → Call → Type 0) → ℕ → List Entry → Type 0
  Made f i [] = ⊥
  Made f i (e ∷ l) =
      ((i ≡ e.who) × (refusal (engine_after l i) e.call ≡ 0) × f (engine_after l i) e.call)
      ⊎ Made f i l

  -- a correct author has an accepted propose of p in the list, and each correct endorser an accepted endorse of it
  pub record Signed (p : Content) (endorsers : ℕ) (l : List Entry) : Type 0 where
    pub by_author : correct p.author ≡ true → Made (λ e c. Proposes e c p) p.author l
    pub by_endorsers : (i : ℕ) → correct i ≡ true → contains endorsers i ≡ true
        → Made (λ e c. Endorses c p) i l

  -- the entry e after the entries l
  pub record Fair (e : Entry) (l : List Entry) : Type 0 where
    -- a correct member makes a call, with any values of their types
    pub by : correct e.who ≡ true
    pub is_in_range : InRange e.call
    -- an accepted open is no entry, as it starts another state; a refused one may be
    pub still_open : (own : Member) (other : Sheet) → e.call ≡ opens own other
        → refusal (engine_after l e.who) e.call ≢ 0
    -- where a certify or an accept is accepted, the correct signers have signed earlier in the list
    pub signed : refusal (engine_after l e.who) e.call ≡ 0 → (p : Content) (endorsers : ℕ)
        → Takes (engine_after l e.who) e.call p endorsers → Signed p endorsers l

  -- in the committee of every round that a correct member knows, the faulty members weigh together at most the fault bound
  abbrev pub WithinBound : List Entry → Type 0
  WithinBound l = (j r : ℕ) → correct j ≡ true → 1 ≤ r → r ≤ settings.ceiling
      → Knows (engine_after l j) r
      → weigh 16 (weights (engine_after l j) r) (outside correct)
      ≤ bound_of settings.margin (total 16 (weights (engine_after l j) r))

  -- the premises: every entry is fair, and the bound holds at the start and after each entry
  abbrev pub Run : List Entry → Type 0
  Run [] = WithinBound []
  Run (e ∷ l) = Fair e l × WithinBound (e ∷ l) × Run l

  -- the conclusion, of any two correct members
  pub record Agreed (l : List Entry) : Type 0 where
    -- of the two chains one is a prefix of the other
    pub chains : (i j : ℕ) → correct i ≡ true → correct j ≡ true
        → Prefix (engine_after l i) (engine_after l j)
        ⊎ Prefix (engine_after l j) (engine_after l i)
    -- in the committee of every round that both know, every member has the same weight
    pub committees : (i j r : ℕ) → correct i ≡ true → correct j ≡ true
        → Knows (engine_after l i) r → Knows (engine_after l j) r
        → (m : ℕ) → weights (engine_after l i) r m ≡ weights (engine_after l j) r m

-- the engine's own, as the contracts of its calls tell it
abbrev pub engine_behaviour : Behaviour
engine_behaviour = record { refusal = refusal_for; after = engine.after }

-- the claim
abbrev pub ChainsNeverFork : Type 0
ChainsNeverFork = (X : Members engine_behaviour) (l : List Entry) → Run X l → Agreed X l
