-- What an accepted endorse has passed, as the state and the table show it.
use Rattle.std.proofs.Common.{◌≡◌, refl, List, ℕ, arith, ltb-false}
use Rattle.base.proofs.CheckLaws.{numbered}
use Rattle.terms.specs.declared.Proposal.{Proposal}
use Rattle.terms.specs.Proposals.{content_of}
use Rattle.rules.specs.Calls as rules
use Rattle.base.proofs.Passed.{passed}
use Rattle.rules.proofs.TestLaws.{round-fits}
use Rattle.state.specs.declared.State.{State}
use Rattle.state.specs.Formed.{Formed}
use Rattle.state.proofs.FormedLaws.{formed, body-fits}
use Rattle.state.proofs.RefusalLaws.{refusal-passed}
use Rattle.endorse.specs.Endorse.{endorse_refusal}
use Rattle.state.specs.SharedChecks.{FormFits}

module _ (s : State) (t : List ℕ) where
  pub record EndorsePassed (p : Proposal) : Type 0 where
    pub formed : Formed s t
    pub fits : FormFits s p

  pub endorse-passed : (p : Proposal) → endorse_refusal s t p ≡ 0 → EndorsePassed p
  unfolding endorse_refusal numbered
  endorse-passed p e =
      let n = refusal-passed s t (rules.endorse (content_of p)) e in
      passed _ refl n.1 λ h4 h5 h6 h7 h14 h10 h8 h11 h12.
      let a = ltb-false 15 p.author.0 h4 in
      let r = round-fits s.settings p.round h5 in
      record {
        formed = formed s t n.0;
        fits = record { author = omega arith; from = r.0; to = r.1; body = body-fits s.settings.allowance p.round p.body h6 h7 };
      }
