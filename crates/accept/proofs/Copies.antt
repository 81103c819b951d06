-- A later copy of a held certificate, with whatever endorsers, its author not among them: 16, and nothing changes.
use Rattle.std.proofs.Common.{◌≡◌, refl, ap, ap₂, ◌∙◌, true, false, List, ◌≢◌, ℕ, ◌<◌, ◌≤◌, arith, le-ltb}
use Rattle.base.specs.Checks.{refusal}
use Rattle.base.proofs.CheckLaws.{passes, refuses}
use Rattle.base.specs.Sets.{contains}
use Rattle.terms.specs.declared.Certificate.{Certificate}
use Rattle.terms.specs.Proposals.{Content, content_of}
use Rattle.terms.proofs.ProposalLaws.{content_self}
use Rattle.store.specs.Table.{held_at, content_at}
use Rattle.store.proofs.TableLaws.{held-member, content-author, content-round}
use Rattle.scan.proofs.ScanLaws.{rows-held, transactions-fit, previous-fits}
use Rattle.rules.specs.Tests.{is_same}
use Rattle.rules.specs.Calls as rules
use Rattle.rules.proofs.TestLaws.{bad_over}
use Rattle.state.specs.declared.State.{State}
use Rattle.state.specs.View.{view}
use Rattle.state.proofs.ViewLaws.{same-dag}
use Rattle.state.specs.WellFormed.{well_formed}
use Rattle.state.proofs.FormedLaws.{formed}
use Rattle.state.proofs.RefusalLaws.{refusal-formed}
use Rattle.accept.specs.Accept.{accept_refusal, accept_table}
use Rattle.state.proofs.AnswerLaws.{if_accepted-old}

module _ (s : State) (t : List ℕ) (well : well_formed s t ≡ true) (c : Certificate) (a r : ℕ) (from : 0 < r) (to : r ≤ s.settings.ceiling)
    (held : held_at t a r ≡ true) (e : content_of c.proposal ≡ content_at t a r) (other : contains c.endorsers a ≡ false) where
  by-rules : refusal (rules.accepting s.settings (view s t) (content_at t a r) c.endorsers) ≡ 16
  by-rules =
      let f = formed s t well in
      let w = (rows-held t s.settings.allowance s.blocks s.settings.ceiling f.rows r from to).records a held in
      let m = held-member t a r held in
      passes 4 _ (rw (content-author t a r) (le-ltb 15 a (omega arith)))
      ∙ passes 5 _ (rw (content-round t a r) (bad_over s.settings r (λ z. omega arith) ∙ le-ltb s.settings.ceiling r to))
      ∙ passes 6 _ (transactions-fit w)
      ∙ passes 7 _ (rw (content-round t a r) (previous-fits w))
      ∙ passes 14 _ (rw (content-author t a r) other)
      ∙ refuses 16 _ (ap₂ (λ (x y : ℕ). is_same (content_at t a r) ((view s t).dag x y)) (content-author t a r) (content-round t a r) ∙ same-dag s.settings.ceiling t a r from to (content_at t a r) ∙ rw (held, content_self (content_at t a r)) refl)

  copy_refusal : accept_refusal s t c ≡ 16
  unfolding accept_refusal
  copy_refusal =
      refusal-formed s t (rules.accept (content_of c.proposal) c.endorsers) well
      ∙ ap (λ (p : Content). refusal (rules.accepting s.settings (view s t) p c.endorsers)) e
      ∙ by-rules

  -- the answer is 16, and the table stays; the state is only read
  pub copy_still : (accept_refusal s t c ≡ 16) × (accept_table s t c ≡ t)
  unfolding accept_table
  copy_still =
      let h : accept_refusal s t c ≢ 0 = λ z. absurd (omega (arith, copy_refusal)) in
      (copy_refusal, if_accepted-old (accept_refusal s t c) _ t h)
