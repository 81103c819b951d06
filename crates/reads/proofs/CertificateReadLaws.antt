-- What an accepted read of a certificate has passed, and what the table tells of a held one.
use Rattle.std.proofs.Common.{◌≡◌, refl, sym, ap, ◌∙◌, true, not, List, ℕ, ◌<◌, ◌≤◌, arith, ltb-false, le-ltb}
use Rattle.base.proofs.Words.{not-false}
use Rattle.base.proofs.CheckLaws.{numbered, passes, passes-all}
use Rattle.terms.specs.declared.Proposal.{Proposal}
use Rattle.store.specs.Table.{Within, held_at, mark_at, endorsers_at, content_at, proposal_of}
use Rattle.store.proofs.TableLaws.{certificate-present}
use Rattle.scan.proofs.ScanLaws.{rows-held}
use Rattle.base.proofs.Passed.{passed}
use Rattle.rules.proofs.TestLaws.{bad_over, round-fits}
use Rattle.state.specs.declared.State.{State}
use Rattle.state.proofs.ViewLaws.{dag-at, held-dag}
use Rattle.ports.specs.Ports.{ports_fit}
use Rattle.state.specs.WellFormed.{well_formed}
use Rattle.state.specs.Formed.{Formed}
use Rattle.state.proofs.FormedLaws.{formed, formed-ports, whole}
use Rattle.reads.specs.declared.Held.{Held}
use Rattle.reads.specs.Reads.{certificate_refusal}
use Rattle.reads.specs.Held.{certificate_read}
use Rattle.reads.proofs.BlockLaws.{mark_number}

-- a held certificate of a well-formed state, at the place of member m and round r
pub record HeldThere (s : State) (t : List ℕ) (m r : ℕ) : Type 0 where
  pub well : Formed s t
  pub ports : ports_fit s.settings t s.blocks ≡ true
  pub member : m < 16
  pub from : 0 < r
  pub to : r ≤ s.settings.ceiling
  pub held : held_at t m r ≡ true

module _ (s : State) (t : List ℕ) where
  pub certificate-passed : (m r : ℕ) → certificate_refusal s t m r ≡ 0 → HeldThere s t m r
  unfolding certificate_refusal numbered
  certificate-passed m r e =
      passed _ refl e λ h1 h4 h5 h23.
      let a = ltb-false 15 m h4 in
      let k = round-fits s.settings r h5 in
      record {
        well = formed s t (not-false (well_formed s t) h1);
        ports = formed-ports s t (not-false (well_formed s t) h1);
        member = omega arith;
        from = k.0;
        to = k.1;
        held = sym (held-dag s.settings.ceiling t m r k.0 k.1) ∙ not-false _ h23;
      }

  -- and where one is held the read is accepted
  pub certificate-accepted : {m r : ℕ} → HeldThere s t m r → certificate_refusal s t m r ≡ 0
  unfolding certificate_refusal
  certificate-accepted {m} {r} k =
      let c = s.settings.ceiling in
      passes 1 _ (ap not (whole s t k.well k.ports))
      ∙ passes 4 _ (le-ltb 15 m (omega (arith, k.member)))
      ∙ passes 5 _ (bad_over s.settings r (λ z. omega (arith, k.from)) ∙ le-ltb c r k.to)
      ∙ passes 23 _ (ap not (held-dag c t m r k.from k.to ∙ k.held))
      ∙ passes-all

  pub place_in : Formed s t → (m r : ℕ) → m < 16 → r ≤ s.settings.ceiling → Within t m r
  place_in f m r a b = record { member = a; row = omega (arith, f.long) }

  -- what the table tells of a held certificate is what the view shows of it
  pub held-told : (m r : ℕ) {p : Proposal} {d : ℕ} {b : ℕ} → Formed s t → 0 < r → r ≤ s.settings.ceiling → held_at t m r ≡ true → p ≡ proposal_of (content_at t m r) → d ≡ endorsers_at t m r → b ≡ mark_at t m r
      → ◌≡◌ {A = Held} (record { proposal = p; endorsers = d; block = b }) (certificate_read s t m r)
  unfolding certificate_read
  held-told m r f from to held i g j =
      let c = s.settings.ceiling in
      let e = dag-at c t m r from to ∙ certificate-present t m r held in
      let w = (rows-held t s.settings.allowance s.blocks c f.rows r from to).records m held in
      rw (e, mark_number c t m r from to held s.blocks w.mark, i, g, j) refl

pub ruleset of_a_place = (round-fits, place_in, held-dag, held-told)
