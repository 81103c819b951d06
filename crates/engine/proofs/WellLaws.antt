-- The state of an accepted call is well formed: check 1 has let it pass.
use Rattle.std.proofs.Common.{◌≡◌, true, not, ℕ, arith}
use Rattle.base.proofs.Words.{not-false}
use Rattle.base.specs.Checks.{Checks, refusal}
use Rattle.base.proofs.CheckLaws.{cleared}
use Rattle.terms.specs.declared.Body.{Body}
use Rattle.terms.specs.declared.Transaction.{Transaction}
use Rattle.terms.specs.declared.Proposal.{Proposal}
use Rattle.terms.specs.declared.Certificate.{Certificate}
use Rattle.state.specs.WellFormed.{well_formed}
use Rattle.state.specs.Refusals.{guarded, refusal_of}
use Rattle.propose.specs.Propose.{propose_refusal}
use Rattle.endorse.specs.Endorse.{endorse_refusal}
use Rattle.certify.specs.Certify.{certify_refusal}
use Rattle.accept.specs.Accept.{accept_refusal}
use Rattle.advance.specs.Advance.{advance_refusal}
use Rattle.commit.specs.Commit.{commit_refusal}
use Rattle.enqueue.specs.Enqueue.{enqueue_refusal}
use Rattle.draw.specs.Draw.{draw_refusal}
use Rattle.serial.specs.Calls.{PortCall}
use Rattle.serial.specs.Serial.{port_refusal}
use Rattle.serial.proofs.LeftLaws.{port-passed}
use Rattle.engine.specs.Engine.{Engine}

module _ (e : Engine) where
  open e use {state, table}

  pub whole_by : (l : Checks) → refusal (guarded state table l) ≡ 0 → well_formed state table ≡ true
  whole_by l a = not-false (well_formed state table) (cleared (not (well_formed state table)) 1 l (omega arith) a).0

  pub propose-whole : (b : Body) → propose_refusal state table b ≡ 0 → well_formed state table ≡ true
  unfolding propose_refusal refusal_of
  propose-whole b a = whole_by _ a

  pub draw-whole : (v : ℕ) → draw_refusal state table v ≡ 0 → well_formed state table ≡ true
  unfolding draw_refusal
  draw-whole v a = propose-whole _ a

  pub endorse-whole : (p : Proposal) → endorse_refusal state table p ≡ 0 → well_formed state table ≡ true
  unfolding endorse_refusal refusal_of
  endorse-whole p a = whole_by _ a

  pub certify-whole : (d : ℕ) → certify_refusal state table d ≡ 0 → well_formed state table ≡ true
  unfolding certify_refusal refusal_of
  certify-whole d a = whole_by _ a

  pub accept-whole : (c : Certificate) → accept_refusal state table c ≡ 0 → well_formed state table ≡ true
  unfolding accept_refusal refusal_of
  accept-whole c a = whole_by _ a

  pub advance-whole : advance_refusal state table ≡ 0 → well_formed state table ≡ true
  unfolding advance_refusal refusal_of
  advance-whole a = whole_by _ a

  pub commit-whole : commit_refusal state table ≡ 0 → well_formed state table ≡ true
  unfolding commit_refusal refusal_of
  commit-whole a = whole_by _ a

  pub enqueue-whole : (g : ℕ) (x : Transaction) → enqueue_refusal state table g x ≡ 0 → well_formed state table ≡ true
  unfolding enqueue_refusal
  enqueue-whole g x a = whole_by _ a

  pub port-whole : (x : PortCall) → port_refusal state table x ≡ 0 → well_formed state table ≡ true
  port-whole x a = (port-passed state table x a).whole
