-- What an accepted certify has passed, as the state and the table show it.
use Rattle.std.proofs.Common.{◌≡◌, refl, sym, ◌∙◌, true, false, true≢false, List, ℕ, Option, Some, None}
use Rattle.base.specs.Checks.{refusal}
use Rattle.base.proofs.CheckLaws.{numbered}
use Rattle.base.specs.Sets.{contains}
use Rattle.agreement.specs.Dag.{is_held}
use Rattle.terms.specs.Proposals.{Content}
use Rattle.store.specs.Table.{held_at}
use Rattle.rules.specs.Calls as rules
use Rattle.base.proofs.Passed.{passed}
use Rattle.state.specs.declared.State.{State}
use Rattle.state.specs.View.{view}
use Rattle.state.proofs.ViewLaws.{held-dag, held-proposal}
use Rattle.state.specs.Formed.{Formed}
use Rattle.state.proofs.FormedLaws.{formed}
use Rattle.state.proofs.RefusalLaws.{refusal-passed}
use Rattle.certify.specs.Certify.{certify_refusal}
use Rattle.state.specs.States.{is_proposing}

module _ (s : State) (t : List ℕ) where
  pub record CertifyPassed (i : ℕ) : Type 0 where
    pub formed : Formed s t
    pub proposing : is_proposing s ≡ true
    pub free : held_at t s.own.0 s.round ≡ false
    pub not_among : contains i s.own.0 ≡ false

  pub certify-passed : (i : ℕ) → certify_refusal s t i ≡ 0 → CertifyPassed i
  unfolding certify_refusal numbered
  certify-passed i e = let n = refusal-passed s t (rules.certify i) e in go (formed s t n.0) (view s t).proposal (held-proposal s) n.1
    where
      go : Formed s t → (o : Option Content) → is_held o ≡ (is_proposing s) → refusal (rules.certifying s.settings s.own.0 (view s t) i o) ≡ 0 → CertifyPassed i
      go f None q h = passed _ refl h λ h15. absurd (true≢false h15)
      go f (Some p) q h =
          passed _ refl h λ h10 h14 h8 h9 h13.
          record {
            formed = f;
            proposing = sym q;
            free = sym (held-dag s.settings.ceiling t s.own.0 s.round f.numbers.round_from f.numbers.round_to) ∙ h10;
            not_among = h14;
          }
