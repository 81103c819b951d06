-- What the calls use of a well-formed state: its conditions and what follows from them, as a record of inequalities and facts.
use Rattle.std.specs.Prelude.{◌≡◌, true, false, List, ℕ, ◌*◌, ◌<◌, ◌≤◌}
use Rattle.agreement.specs.Rules.{last}
use Rattle.terms.specs.declared.Body.{Body}
use Rattle.terms.specs.Proposals.{transactions_of, bad_transactions, bad_previous_set}
use Rattle.store.specs.Table.{Row}
use Rattle.scan.specs.Scan.{rows_fit}
use Rattle.queues.specs.Words.{queues_fit}
use Rattle.terms.specs.Ranges.{out_of_range, weightless, SettingsFit}
use Rattle.committee.specs.Chain.{chain_of}
use Rattle.state.specs.declared.State.{State}
use Rattle.state.specs.States.{is_proposing, own_body}
use Rattle.chain_committees.specs.BlockChanges.{blocks_fit}

-- own number, present round and number of blocks are in range
pub record NumbersFit (o r b n : ℕ) : Type 0 where
  pub own : o < 16
  pub round_from : 1 ≤ r
  pub round_to : r ≤ n
  pub blocks_to : b ≤ n

-- a proposal's body: few enough transactions and all in range, a previous set that is empty exactly in round 1
pub record BodyFits (allowance r : ℕ) (b : Body) : Type 0 where
  pub few : b.count ≤ allowance
  pub fit : bad_transactions allowance (transactions_of b) ≡ false
  pub right : bad_previous_set r b.previous ≡ false

pub record Formed (s : State) (t : List ℕ) : Type 0 where
  pub is_in_range : out_of_range s.settings ≡ false
  pub settings : SettingsFit s.settings
  pub weighty : weightless s.settings ≡ false
  pub numbers : NumbersFit s.own.0 s.round s.blocks s.settings.ceiling
  pub proposal : is_proposing s ≡ true → BodyFits s.settings.allowance s.round (own_body s)
  pub long : Row t s.settings.ceiling
  pub rows : rows_fit t s.settings.allowance s.blocks s.settings.ceiling ≡ true
  pub rounds : blocks_fit s.settings.ceiling t s.blocks ≡ true
  pub queues : queues_fit t ≡ true
  -- there is room for one more block below the ceiling
  pub room : 2 * s.blocks < s.settings.ceiling
  pub last_to : last (chain_of s.settings.ceiling t s.blocks) < s.settings.ceiling
