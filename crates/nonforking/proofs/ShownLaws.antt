-- Over every list of calls the certificate read shows what an accepted certify or accept took: the proposal, and the endorsers that it was stored with.
use Rattle.std.proofs.Common.{refl, sym, ap, ◌∙◌, subst, List, [], ◌∷◌, inl, inr, ℕ, ◌<◌, ◌≤◌}
use Rattle.terms.specs.Proposals.{Content, content_of}
use Rattle.store.proofs.TableLaws.{held-member}
use Rattle.store.proofs.RecordLaws.{proposal-content}
use Rattle.terms.specs.declared.sheet.Settings.{Settings}
use Rattle.state.proofs.FormedLaws.{formed, formed-ports}
use Rattle.reads.specs.declared.Held.{Held}
use Rattle.reads.proofs.CertificateReadLaws.{HeldThere, certificate-accepted, held-told}
use Rattle.engine.specs.Calls.{Call, InRange}
use Rattle.engine.specs.Engine.{Engine, after}
use Rattle.engine.specs.Sequences.{after_calls, AllInRange, NoOpen, Opening, after_opening}
use Rattle.engine.specs.Reached.{Good}
use Rattle.engine.proofs.RuledLaws.{good_after}
use Rattle.engine.proofs.ReachedLaws.{intact, reached}
use Rattle.nonforking.specs.Stored.{Holds, Stored, Shows}
use Rattle.nonforking.proofs.StoredLaws.{taking_no_open, taken-fits, stored_held}

-- ---- one state

-- what a well-formed state holds of a round up to its ceiling, the read shows
held-shown : (e : Engine) (a r : ℕ) (p : Content) (d : ℕ) → Holds e.table a r p d → HeldThere e.state e.table a r → Shows e a r p d
held-shown e a r p d h k =
    let t = e.table in
    let q = sym (held-told e.state t a r k.well k.from k.to k.held refl refl refl) in
    record {
      accepted = certificate-accepted e.state t k;
      proposal = ap (λ (z : Held). content_of z.proposal) q ∙ proposal-content t a r refl ∙ h.proposal;
      endorsers = ap (λ (z : Held). z.endorsers) q ∙ h.endorsers;
    }

-- ---- rounds

-- the round is one of the state's
abbrev IsRound : Engine → ℕ → Type 0
IsRound e r = (0 < r) × (r ≤ e.state.settings.ceiling)

-- it stays one, as long as no open is accepted
round-stays : {S : Settings} {own : ℕ} {e : Engine} → Good S own e → (c : Call) → InRange c → NoOpen e c → (r : ℕ) → IsRound e r → IsRound (after e c) r
round-stays g c w o r = subst (λ (z : Settings). (0 < r) × (r ≤ z.ceiling)) (g.settings ∙ sym (good_after g c w o).settings)

stored-round : (x : Opening) (l : List Call) → AllInRange l → (p : Content) (d : ℕ) → Stored (after_opening x) l p d → IsRound (after_calls (after_opening x) l) p.round
unfolding after_calls
stored-round x (c ∷ l) i p d (inl k) =
    let e = after_calls (after_opening x) l in
    let g = (intact (reached x l i.1)).good in
    let f = (taken-fits e g c i.0 k.0 p d k.1).0 in
    round-stays g c i.0 (taking_no_open e c p d k.1) p.round (f.from, f.to)
stored-round x (c ∷ l) i p d (inr k) = round-stays (intact (reached x l i.1)).good c i.0 k.0 p.round (stored-round x l i.1 p d k.1)
stored-round x [] i p d y = elim y [ ]

-- ---- lists of calls

-- what is held so, the read shows
pub stored_shown : (x : Opening) (l : List Call) → AllInRange l → (p : Content) (d : ℕ) → Stored (after_opening x) l p d → Shows (after_calls (after_opening x) l) p.author p.round p d
stored_shown x l i p d k =
    let e = after_calls (after_opening x) l in
    let h = stored_held x l i p d k in
    let r = stored-round x l i p d k in
    held-shown e p.author p.round p d h
    (record {
      well = formed e.state e.table (intact (reached x l i)).good.formed;
      ports = formed-ports e.state e.table (intact (reached x l i)).good.formed;
      member = held-member e.table p.author p.round h.held;
      from = r.0;
      to = r.1;
      held = h.held;
    })
