-- What a call leaves: the engine as it was where it is refused, a new one where it is accepted.
use Rattle.std.proofs.Common.{◌≡◌, refl, sym, ◌∙◌, Bool, true, false, cond, List, ◌≢◌, ℕ, eqb, eq-eqb, ne_eqb}
use Rattle.base.proofs.Bools.{cond_same}
use Rattle.terms.specs.Proposals.{content_with, content_of}
use Rattle.store.specs.Writes.{put_certificate, set_endorsed, clear_endorsed, clear_used}
use Rattle.terms.specs.Sheets.{filled}
use Rattle.state.specs.declared.State.{State}
use Rattle.state.specs.States.{proposed, advanced, own_body}
use Rattle.state.specs.Answers.{if_accepted}
use Rattle.open.specs.Open.{fresh_state, open_state, open_table}
use Rattle.propose.specs.Propose.{propose_state}
use Rattle.endorse.specs.Endorse.{endorse_table}
use Rattle.certify.specs.Certify.{certify_table}
use Rattle.accept.specs.Accept.{accept_table}
use Rattle.advance.specs.Advance.{advance_state}
use Rattle.queues.specs.Words.{added_table, drawn_table}
use Rattle.enqueue.specs.Enqueue.{enqueue_table}
use Rattle.draw.specs.Draw.{draws, drawn_body, draw_refusal, draw_state, draw_table}
use Rattle.commit.specs.Commit.{commit_state, commit_table_after, committed_table}
use Rattle.commit.proofs.CommitLaws.{committed_state}
use Rattle.serial.specs.Serial.{ported_table, port_table}
use Rattle.engine.specs.Calls.{Call, opens, propose, endorse, certify, accept, advance, commit, enqueue, draw, port, aside}
use Rattle.engine.specs.Engine.{Engine, refusal_for, after}

-- what an accepted call leaves
abbrev pub renewed : Engine → Call → Engine
renewed e (opens own sheet) = record { state = fresh_state own (filled sheet) sheet.rights; table = clear_used e.table (filled sheet).ceiling }
renewed e (propose b) = record { state = proposed e.state b; table = e.table }
renewed e (endorse p) = record { state = e.state; table = set_endorsed e.table p.author.0 p.round }
renewed e (certify d) = record { state = e.state; table = put_certificate e.table (content_with e.state.own.0 e.state.round (own_body e.state)) d }
renewed e (accept c) =
    record {
      state = e.state;
      table = clear_endorsed (put_certificate e.table (content_of c.proposal) c.endorsers) c.proposal.author.0 c.proposal.round;
    }
renewed e advance = record { state = advanced e.state; table = e.table }
renewed e commit = record { state = committed_state e.state e.table; table = committed_table e.state e.table }
renewed e (enqueue g x) = record { state = e.state; table = added_table e.table g x }
renewed e (draw v) = record { state = proposed e.state (drawn_body e.state e.table v); table = drawn_table (draws e.state e.table) e.table }
renewed e (port x) = record { state = e.state; table = ported_table e.state e.table x }
renewed e (aside x) = e

module _ (e : Engine) where
  open e use {state, table}

  -- state and table by one test
  both_by : (new : Engine) (b : Bool) → ◌≡◌ {A = Engine} (record { state = cond b new.state state; table = cond b new.table table }) (cond b new e)
  both_by new true = refl
  both_by new false = refl

  -- the state alone
  state-by : (s : State) (b : Bool) → ◌≡◌ {A = Engine} (record { state = cond b s state; table = table }) (cond b (record { state = s; table = table }) e)
  state-by s true = refl
  state-by s false = refl

  -- the table alone
  table-by : (t : List ℕ) (b : Bool) → ◌≡◌ {A = Engine} (record { state = state; table = cond b t table }) (cond b (record { state = state; table = t }) e)
  table-by t true = refl
  table-by t false = refl

  after-by : (c : Call) → after e c ≡ cond (eqb (refusal_for e c) 0) (renewed e c) e
  unfolding open_state open_table propose_state endorse_table certify_table accept_table advance_state commit_state commit_table_after enqueue_table draw_refusal draw_state draw_table port_table if_accepted
  after-by (opens own sheet) = both_by (renewed e (opens own sheet)) (eqb (refusal_for e (opens own sheet)) 0)
  after-by (propose b) = state-by (proposed state b) (eqb (refusal_for e (propose b)) 0)
  after-by advance = state-by (advanced state) (eqb (refusal_for e advance) 0)
  after-by commit = both_by (renewed e commit) (eqb (refusal_for e commit) 0)
  after-by (draw v) = both_by (renewed e (draw v)) (eqb (refusal_for e (draw v)) 0)
  after-by (aside x) = sym (cond_same (eqb (refusal_for e (aside x)) 0) e)
  after-by c = table-by (renewed e c).table (eqb (refusal_for e c) 0)

  -- a refused call changes nothing
  pub refused-same : (c : Call) → refusal_for e c ≢ 0 → after e c ≡ e
  refused-same c n = after-by c ∙ rw (ne_eqb (refusal_for e c) 0 n) refl

  pub accepted-new : (c : Call) → refusal_for e c ≡ 0 → after e c ≡ renewed e c
  accepted-new c a = after-by c ∙ rw (eq-eqb (refusal_for e c) 0 a) refl
