-- What every call does: it is refused and changes nothing, or it does what the rules say.
use Rattle.std.specs.Prelude.{◌≡◌, true, ◌≢◌, ◌<◌, drop}
use Rattle.terms.specs.declared.Member.{Member}
use Rattle.terms.specs.declared.Body.{Body}
use Rattle.terms.specs.Proposals.{content_of, transactions_of}
use Rattle.store.specs.Table.{used_length}
use Rattle.terms.specs.declared.sheet.Sheet.{Sheet}
use Rattle.terms.specs.declared.sheet.Settings.{Settings}
use Rattle.terms.specs.Sheets.{filled}
use Rattle.committee.specs.Chain.{chain_of}
use Rattle.rules.specs.Tests.{MemberView}
use Rattle.rules.specs.Calls as rules
use Rattle.state.specs.WellFormed.{well_formed}
use Rattle.state.specs.View.{dag_of, endorsed_of, own_proposal}
use Rattle.draw.specs.Draw.{drawn_body}
use Rattle.engine.specs.Calls.{Call, opens, propose, endorse, certify, accept, advance, commit, draw}
use Rattle.engine.specs.Engine.{Engine, refusal_for, after}
use Rattle.state.specs.States.{own_body}

-- the view that an engine shows, for settings that equal its own
abbrev pub view_at : (S : Settings) → Engine → MemberView S
view_at S e =
    record {
      round = e.state.round;
      proposal = own_proposal e.state;
      dag = dag_of e.state.settings.ceiling e.table;
      endorsed = endorsed_of e.state.settings.ceiling e.table;
      chain = chain_of e.state.settings.ceiling e.table e.state.blocks;
    }

-- a propose of a body
abbrev pub ruled_propose : Body → rules.Call
ruled_propose b = rules.propose b.previous (transactions_of b)

-- the call of the rules that a call on an engine stands for: a draw proposes what the engine's queues hold; a refused open changes nothing, an enqueue and what is asked of a port nothing that the rules see, so they stand for a read
abbrev pub ruled : Engine → Call → rules.Call
ruled e (propose b) = ruled_propose b
ruled e (endorse p) = rules.endorse (content_of p)
ruled e (certify d) = rules.certify d
ruled e (accept c) = rules.accept (content_of c.proposal) c.endorsers
ruled e advance = rules.advance
ruled e commit = rules.commit
ruled e (draw v) = ruled_propose (drawn_body e.state e.table v)
ruled e c = rules.read

-- the previous set in a state is a 16-bit number
abbrev pub SetInRange : Engine → Type 0
SetInRange e = (own_body e.state).previous < 65536

-- nothing beyond the part of the table that a state with settings S uses has changed
abbrev pub BeyondSame : Settings → Engine → Engine → Type 0
BeyondSame S e x = drop (used_length S.ceiling) x.table ≡ drop (used_length S.ceiling) e.table

-- x is what an accepted open on e leaves: a well-formed state of round 1 and nothing else
pub record FreshlyOpened (own : Member) (sheet : Sheet) (e x : Engine) : Type 0 where
  pub its_own : x.state.own ≡ own
  pub its_settings : x.state.settings ≡ filled sheet
  pub its_rights : x.state.rights ≡ sheet.rights
  pub formed : well_formed x.state x.table ≡ true
  pub shows : view_at (filled sheet) x ≡ rules.fresh_view (filled sheet)
  pub set_in_range : SetInRange x
  pub beyond : BeyondSame (filled sheet) e x

-- x is what any other accepted call c on e leaves: own number, settings and rights as they were, a well-formed state, and the rules' next view
pub record AsRuled (e : Engine) (c : Call) (x : Engine) : Type 0 where
  pub same_own : x.state.own ≡ e.state.own
  pub same_settings : x.state.settings ≡ e.state.settings
  pub same_rights : x.state.rights ≡ e.state.rights
  pub formed : well_formed x.state x.table ≡ true
  pub shows : view_at e.state.settings x
      ≡ rules.after e.state.settings e.state.own.0 (view_at e.state.settings e) (ruled e c)
  pub set_in_range : SetInRange x
  pub beyond : BeyondSame e.state.settings e x

-- every call is refused and changes no word, or is an accepted open, or does what the rules say
pub data Step (e : Engine) (c : Call) : Type 0 where
  refused : refusal_for e c ≢ 0 → after e c ≡ e → Step e c
  opened : (own : Member) (sheet : Sheet) → c ≡ opens own sheet → refusal_for e c ≡ 0
      → FreshlyOpened own sheet e (after e c) → Step e c
  moved : refusal_for e c ≡ 0 → well_formed e.state e.table ≡ true
      → AsRuled e c (after e c) → Step e c
