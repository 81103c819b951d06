-- The engine: a state and the lent table, the number that a call is refused with, and what it leaves, as the contracts of its calls tell it.
use Rattle.std.specs.Prelude.{List, [], ℕ}
use Rattle.base.specs.Checks.{Checks, refusal}
use Rattle.terms.specs.Sheets.{filled}
use Rattle.rules.specs.Reads.{reading_committee, reading_share, reading_effect, reading_certificate, reading_block}
use Rattle.state.specs.declared.State.{State}
use Rattle.state.specs.View.{view}
use Rattle.state.specs.Refusals.{guarded}
use Rattle.open.specs.Open.{open_refusal, open_state, open_table}
use Rattle.propose.specs.Propose.{propose_refusal, propose_state}
use Rattle.endorse.specs.Endorse.{endorse_refusal, endorse_table}
use Rattle.certify.specs.Certify.{certify_refusal, certify_table}
use Rattle.accept.specs.Accept.{accept_refusal, accept_table}
use Rattle.advance.specs.Advance.{advance_refusal, advance_state}
use Rattle.commit.specs.Commit.{commit_refusal, commit_state, commit_table_after}
use Rattle.preview.specs.Preview.{previewing}
use Rattle.critical.specs.Critical.{reading_critical}
use Rattle.spans.specs.Listed.{reading_blocks}
use Rattle.enqueue.specs.Enqueue.{enqueue_refusal, enqueue_table}
use Rattle.draw.specs.Draw.{draw_refusal, draw_state, draw_table}
use Rattle.serial.specs.Serial.{port_refusal, port_table}
use Rattle.engine.specs.Calls.{Aside, committee, share, effect, certificate, block, preview, critical, blocks, listing, Call, opens, propose, endorse, certify, accept, advance, commit, enqueue, draw, port, aside}

-- what a member's host keeps between calls
pub record Engine : Type 0 where
  pub state : State
  pub table : List ℕ

-- the checks of a call that leaves state and table, after check 1
abbrev pub aside_checks : Engine → Aside → Checks
aside_checks e (committee r) = reading_committee e.state.settings (view e.state e.table) r
aside_checks e (share m r) = reading_share e.state.settings (view e.state e.table) m.0 r
aside_checks e (effect m r a) = reading_effect e.state.settings (view e.state e.table) m.0 r a
aside_checks e (certificate m r) =
    reading_certificate e.state.settings (view e.state e.table) m.0 r
aside_checks e (block n) = reading_block e.state.settings (view e.state e.table) n
aside_checks e (preview n) = previewing e.state e.table n
aside_checks e (critical n) = reading_critical e.state e.table n
aside_checks e (blocks m n w) = reading_blocks e.state e.table m n w
aside_checks e listing = []

-- the number of the first check that refuses the call, 0 for none: then it is accepted
abbrev pub refusal_for : Engine → Call → ℕ
refusal_for e (opens own sheet) = open_refusal e.table own (filled sheet)
refusal_for e (propose b) = propose_refusal e.state e.table b
refusal_for e (endorse p) = endorse_refusal e.state e.table p
refusal_for e (certify d) = certify_refusal e.state e.table d
refusal_for e (accept c) = accept_refusal e.state e.table c
refusal_for e advance = advance_refusal e.state e.table
refusal_for e commit = commit_refusal e.state e.table
refusal_for e (enqueue g x) = enqueue_refusal e.state e.table g x
refusal_for e (draw v) = draw_refusal e.state e.table v
refusal_for e (port x) = port_refusal e.state e.table x
refusal_for e (aside x) = refusal (guarded e.state e.table (aside_checks e x))

-- the state that the call leaves, and what the lent table holds then; propose and advance leave the table, endorse, certify, accept, enqueue and what is asked of a port the state, and what stands aside leaves both
abbrev pub after : Engine → Call → Engine
after e (opens own sheet) = record {
  state = open_state e.state e.table own sheet;
  table = open_table e.table own sheet;
}
after e (propose b) = record { state = propose_state e.state e.table b; table = e.table }
after e (endorse p) = record { state = e.state; table = endorse_table e.state e.table p }
after e (certify d) = record { state = e.state; table = certify_table e.state e.table d }
after e (accept c) = record { state = e.state; table = accept_table e.state e.table c }
after e advance = record { state = advance_state e.state e.table; table = e.table }
after e commit = record {
  state = commit_state e.state e.table;
  table = commit_table_after e.state e.table;
}
after e (enqueue g x) = record { state = e.state; table = enqueue_table e.state e.table g x }
after e (draw v) = record {
  state = draw_state e.state e.table v;
  table = draw_table e.state e.table v;
}
after e (port x) = record { state = e.state; table = port_table e.state e.table x }
after e (aside x) = e
