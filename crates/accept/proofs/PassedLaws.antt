-- What an accepted accept has passed, as the state and the table show it.
use Rattle.std.proofs.Common.{◌≡◌, refl, sym, ◌∙◌, false, List, ℕ, arith, ltb-false}
use Rattle.base.proofs.CheckLaws.{numbered}
use Rattle.base.specs.Sets.{contains}
use Rattle.terms.specs.declared.Certificate.{Certificate}
use Rattle.terms.specs.Proposals.{content_of}
use Rattle.store.specs.Table.{held_at}
use Rattle.rules.specs.Calls as rules
use Rattle.base.proofs.Passed.{passed}
use Rattle.rules.proofs.TestLaws.{round-fits}
use Rattle.state.specs.declared.State.{State}
use Rattle.state.proofs.ViewLaws.{held-dag}
use Rattle.state.specs.Formed.{Formed}
use Rattle.state.proofs.FormedLaws.{formed, body-fits}
use Rattle.state.proofs.RefusalLaws.{refusal-passed}
use Rattle.accept.specs.Accept.{accept_refusal}
use Rattle.state.specs.SharedChecks.{FormFits}

module _ (s : State) (t : List ℕ) where
  pub record AcceptPassed (c : Certificate) : Type 0 where
    pub formed : Formed s t
    pub fits : FormFits s c.proposal
    pub free : held_at t c.proposal.author.0 c.proposal.round ≡ false
    pub not_among : contains c.endorsers c.proposal.author.0 ≡ false

  pub accept-passed : (c : Certificate) → accept_refusal s t c ≡ 0 → AcceptPassed c
  unfolding accept_refusal numbered
  accept-passed c e =
      let p = c.proposal in
      let n = refusal-passed s t (rules.accept (content_of p) c.endorsers) e in
      passed _ refl n.1 λ h4 h5 h6 h7 h14 h16 h17 h8 h9 h13 h11.
      let a = ltb-false 15 p.author.0 h4 in
      let r = round-fits s.settings p.round h5 in
      record {
        formed = formed s t n.0;
        fits = record { author = omega arith; from = r.0; to = r.1; body = body-fits s.settings.allowance p.round p.body h6 h7 };
        free = sym (held-dag s.settings.ceiling t p.author.0 p.round r.0 r.1) ∙ h17;
        not_among = h14;
      }
