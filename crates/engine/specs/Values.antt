-- The value that a call answers with, where it is accepted.
use Rattle.std.specs.Prelude.{if◌then◌else◌, List, ℕ, ◌-◌, ◌==◌}
use Rattle.agreement.specs.Rules.{Chain}
use Rattle.terms.specs.declared.Proposal.{Proposal}
use Rattle.terms.specs.declared.sheet.Weight.{Weight}
use Rattle.terms.specs.Proposals.{Content}
use Rattle.store.specs.Table.{endorsers_at}
use Rattle.committee.specs.declared.effects.Effect.{Effect}
use Rattle.rules.specs.Reads.{committee_read, share_read, effect_read, block_number, block_read}
use Rattle.state.specs.View.{view}
use Rattle.commit.specs.Commit.{blocks_then}
use Rattle.preview.specs.Entries.{Entry}
use Rattle.preview.specs.Preview.{preview_entries}
use Rattle.critical.specs.Critical.{Place, critical_places}
use Rattle.spans.specs.Listed.{blocks_held}
use Rattle.reads.specs.declared.Held.{Held}
use Rattle.reads.specs.Held as reads
use Rattle.serial.specs.Calls.{read, write, PortCall, access, reset}
use Rattle.serial.specs.Serial.{register}
use Rattle.engine.specs.Calls.{Aside, committee, share, effect, certificate, block, preview, critical, blocks, listing, Call, commit, port, aside}
use Rattle.engine.specs.Engine.{Engine, refusal_for}

pub data Value : Type 0 where
  nothing : Value
  -- the blocks that a commit added, a share's thousandths, a block's round, a byte read from a port
  number : ℕ → Value
  -- a committee: sixteen weights, 0 for a non-member
  weights : List Weight → Value
  -- the shares before and after a bond, and the largest difference
  shares : Effect → Value
  -- a held certificate: its proposal, the endorsers that it was stored with, and the number of its block, 0 for none
  held : Proposal → ℕ → ℕ → Value
  -- the certificates of the blocks that a commit would add
  entries : List Entry → Value
  -- those that a commit hangs on
  places : List Place → Value
  -- those of blocks in a row, each as the read of a certificate gives it
  rows : List Held → Value
  -- the chain, newest block first
  chain : Chain Content → Value

-- of a call that leaves state and table
abbrev pub aside_value : Engine → Aside → Value
aside_value e (committee r) = weights (committee_read e.state.settings (view e.state e.table) r)
aside_value e (share m r) = number (share_read e.state.settings (view e.state e.table) m.0 r)
aside_value e (effect m r a) =
    shares (effect_read e.state.settings (view e.state e.table) m.0 r a)
aside_value e (certificate m r) =
    held (reads.proposal_shown ((view e.state e.table).dag m.0 r)) (endorsers_at e.table m.0 r)
    (block_number (view e.state e.table).chain m.0 r)
aside_value e (block n) = number (block_read e.state.settings (view e.state e.table) n)
aside_value e (preview n) = entries (preview_entries e.state e.table)
aside_value e (critical n) = places (critical_places e.state e.table)
aside_value e (blocks m n w) = rows (blocks_held e.state e.table m n)
aside_value e listing = chain (view e.state e.table).chain

-- of what is asked of a port: a read gives what the offset shows
abbrev pub port_value : Engine → PortCall → Value
port_value e (access g (read o)) = number (register e.state e.table g o)
port_value e (access g (write o b)) = nothing
port_value e (reset g) = nothing

-- of a call that is accepted
abbrev pub accepted_value : Engine → Call → Value
accepted_value e commit = number (blocks_then e.state e.table - e.state.blocks)
accepted_value e (port x) = port_value e x
accepted_value e (aside x) = aside_value e x
accepted_value e c = nothing

-- a refused call gives none
unfoldable pub value_of : Engine → Call → Value
value_of e c = if refusal_for e c == 0 then accepted_value e c else nothing
