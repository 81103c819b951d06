-- The view after what each accepted call does to the state and the table: the theory's next view.
use Rattle.std.proofs.Common.{◌≡◌, refl, ap, ◌∙◌, false, List, [], ℕ, add-one, None}
use Rattle.agreement.specs.Places.{mark}
use Rattle.agreement.specs.Moves.{after_propose, after_endorse, after_certify, after_accept, after_advance}
use Rattle.terms.specs.declared.Body.{Body}
use Rattle.terms.specs.declared.Member.{Member}
use Rattle.terms.specs.Proposals.{Content, content_with}
use Rattle.store.specs.Table.{Row, held_at}
use Rattle.store.specs.Writes.{put_certificate, set_endorsed, clear_endorsed, clear_used}
use Rattle.store.proofs.PutLaws.{length-put}
use Rattle.store.proofs.EndorseLaws.{set-endorsed, clear-endorsed}
use Rattle.terms.specs.declared.sheet.Rights.{Rights}
use Rattle.terms.specs.declared.sheet.Settings.{Settings}
use Rattle.committee.specs.Instance.{rules}
use Rattle.committee.proofs.ChainLaws.{chain-none}
use Rattle.rules.specs.Tests as tests
use Rattle.state.specs.declared.State.{State}
use Rattle.state.specs.States.{proposed, advanced, fresh}
use Rattle.state.specs.View.{own_proposal, view}
use Rattle.state.proofs.ViewLaws.{proposal-none, proposal-some}
use Rattle.state.proofs.WriteLaws.{Storable, within, dag-put, endorsed-of-put, chain-put, dag-endorse, chain-endorse, endorsed-of-set, endorsed-of-clear, dag-cleared, endorsed-of-cleared}

module _ (s : State) (t : List ℕ) where
  -- the proposal is kept
  pub view-propose : (b : Body) → view (proposed s b) t ≡ after_propose (view s t) (content_with s.own.0 s.round b)
  view-propose b = λ i. record { round = s.round; proposal = proposal-some (proposed s b) refl i; dag = (view s t).dag; endorsed = (view s t).endorsed; chain = (view s t).chain }

  -- next round, proposal dropped
  pub view-advance : view (advanced s) t ≡ after_advance (view s t)
  view-advance =
      λ i. record { round = add-one s.round i; proposal = proposal-none (advanced s) refl i; dag = (view s t).dag; endorsed = (view s t).endorsed; chain = (view s t).chain }

  module _ (p : Content) (long : Row t s.settings.ceiling) (k : Storable s.settings.ceiling p) where
    -- the place is marked endorsed
    pub view-endorse : view s (set_endorsed t p.author p.round) ≡ after_endorse (view s t) p
    view-endorse =
        let n = s.settings.ceiling in
        let o = set-endorsed t p.author p.round in
        λ i. record { round = s.round; proposal = own_proposal s; dag = dag-endorse n o i; endorsed = endorsed-of-set s.settings n t p long k i; chain = chain-endorse n o s.blocks i }

    module _ (d : ℕ) (free : held_at t p.author p.round ≡ false) where
      -- the certificate is held
      pub view-certify : view s (put_certificate t p d) ≡ after_certify (view s t) p
      view-certify =
          let S = s.settings in
          let n = S.ceiling in
          λ i. record { round = s.round; proposal = own_proposal s; dag = dag-put n t p d long k free S i; endorsed = endorsed-of-put n t p d long k i; chain = chain-put n t p d long k free s.blocks i }

      -- and its endorsed mark cleared
      pub view-accept : view s (clear_endorsed (put_certificate t p d) p.author p.round) ≡ after_accept (view s t) p
      view-accept =
          let S = s.settings in
          let n = S.ceiling in
          let u = put_certificate t p d in
          let o = clear-endorsed u p.author p.round in
          let long' : Row u n = rw (length-put t p d (within t long k)) long in
          let g = dag-endorse n o ∙ dag-put n t p d long k free S in
          let e = endorsed-of-clear S n u p long' k ∙ ap (mark (rules S) false p) (endorsed-of-put n t p d long k) in
          let c = chain-endorse n o s.blocks ∙ chain-put n t p d long k free s.blocks in
          λ i. record { round = s.round; proposal = own_proposal s; dag = g i; endorsed = e i; chain = c i }

-- a fresh state has round 1 and nothing else
pub view_open : (own : Member) (S : Settings) (R : Rights) (t : List ℕ)
    → ◌≡◌ {A = tests.MemberView S} (view (fresh own S R) (clear_used t S.ceiling)) (record { round = 1; proposal = None; dag = λ a r. None; endorsed = λ a r. false; chain = [] })
view_open own S R t =
    let n = S.ceiling in
    λ i. record { round = 1; proposal = proposal-none (fresh own S R) refl i; dag = dag-cleared n t i; endorsed = endorsed-of-cleared n t i; chain = chain-none n (clear_used t n) i }
