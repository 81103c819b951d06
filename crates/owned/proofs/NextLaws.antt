-- Laws of the calls that make no blocks: what each, where it is accepted, keeps of a member's histories, of its proposal and of its chain.
use Rattle.base.proofs.CheckLaws.{numbered}
use Rattle.base.proofs.Passed.{passed}
use Rattle.base.specs.Sets.{is_subset}
use Rattle.base.proofs.UnionLaws.{in_none}
use Rattle.base.proofs.Words.{false≢true}
use Rattle.terms.specs.declared.Body.{Body}
use Rattle.terms.specs.declared.Certificate.{Certificate}
use Rattle.terms.specs.declared.Proposal.{Proposal}
use Rattle.terms.specs.declared.Transaction.{Transaction}
use Rattle.terms.specs.Proposals.{Content, content_of, content_with, transactions_of}
use Rattle.store.specs.Table.{Within, held_at, held_set}
use Rattle.store.specs.Writes.{put_certificate, set_endorsed, clear_endorsed}
use Rattle.store.proofs.FirstRow.{OnlyFirst, held-only}
use Rattle.store.proofs.TableLaws.{held_in}
use Rattle.store.proofs.PutLaws.{block-round-put}
use Rattle.store.proofs.EndorseLaws.{OnlyEndorsed, set-endorsed, clear-endorsed, held-endorse, block-round-endorse}
use Rattle.queues.specs.Words.{queues_of, added_table, drawn_table}
use Rattle.queues.proofs.AddedLaws.{only-added}
use Rattle.queues.proofs.DrawLaws.{only-drawn}
use Rattle.rules.specs.Calls as rules
use Rattle.rules.specs.Tests.{missing, above}
use Rattle.rules.proofs.TestLaws.{later}
use Rattle.committee.specs.Chain.{chain_of}
use Rattle.chain_committees.specs.BlockChanges.{last_round}
use Rattle.state.specs.declared.State.{State}
use Rattle.state.specs.States.{proposed, advanced, own_body}
use Rattle.state.specs.View.{view}
use Rattle.state.proofs.FirstRow.{last-only, chain-only}
use Rattle.state.proofs.WriteLaws.{Storable, within, chain-put, chain-endorse}
use Rattle.state.proofs.PlaceLaws.{placed, own-placed}
use Rattle.state.proofs.ViewLaws.{missing-held}
use Rattle.state.proofs.RefusalLaws.{refusal-passed}
use Rattle.propose.specs.Propose.{propose_refusal}
use Rattle.propose.proofs.PassedLaws.{propose-passed}
use Rattle.accept.specs.Accept.{accept_refusal}
use Rattle.accept.proofs.PassedLaws.{AcceptPassed, accept-passed}
use Rattle.certify.specs.Certify.{certify_refusal}
use Rattle.certify.proofs.PassedLaws.{CertifyPassed, certify-passed}
use Rattle.enqueue.specs.Enqueue.{enqueue_refusal}
use Rattle.enqueue.proofs.PassedLaws.{enqueue-passed}
use Rattle.draw.specs.Draw.{drawn_body, draws, draw_refusal}
use Rattle.draw.proofs.PassedLaws.{draw-passed, drawn-small}
use Rattle.serial.specs.Calls.{PortCall}
use Rattle.serial.specs.Serial.{ported_table, port_refusal}
use Rattle.serial.proofs.LeftLaws.{port-passed, only_ported}
use Rattle.std.proofs.Common.{◌≡◌, refl, sym, ◌∙◌, Bool, true, false, not, List, ℕ, ◌-◌, ◌<◌, ◌≤◌, arith}
use Rattle.owned.proofs.CommittingLaws.{last-same}
use Rattle.owned.proofs.KeepingLaws.{subset_in, rooted-endorsed, rooted-put, held-grows, rooted-first}
use Rattle.owned.specs.Rooted.{Rooted, NamesHeld, ProposalRooted}

-- check 11: whom a proposal that passes it names is held
held_named : (s : State) (t : List ℕ) (p : Content) → p.previous < 65536 → p.round ≤ s.settings.ceiling → above p.round (missing s.settings (view s t) p) ≡ false → NamesHeld t p.round p.previous
held_named s t p small to h11 a q h e i =
    let m = later p.round (missing s.settings (view s t) p) (λ z. omega arith) h11 in
    let z = subset_in p.previous (held_set t (p.round - 1)) a (whole (is_subset p.previous (held_set t (p.round - 1))) (sym (missing-held s t p small (omega arith) to) ∙ m)) i in
    let j : p.round - 1 ≡ q = omega arith in
    held_in t a q ∙ (rw j at z)
  where
    whole : (b : Bool) → not b ≡ false → b ≡ true
    whole true e = refl
    whole false e = sym e

module _ (s : State) (t : List ℕ) where
  -- ---- whom they name

  proposed-held : (b : Body) → b.previous < 65536 → propose_refusal s t b ≡ 0 → NamesHeld t s.round b.previous
  unfolding propose_refusal numbered
  proposed-held b small ok =
      let x = refusal-passed s t (rules.propose b.previous (transactions_of b)) ok in
      let f = (propose-passed s t b ok).formed in
      passed _ refl x.1 λ h6 h7 h10 h8 h9 h11 h12.
      held_named s t (rules.drafted s.settings s.own.0 (view s t) b.previous (transactions_of b)) small f.numbers.round_to h11

  accepted-held : (c : Certificate) → c.proposal.body.previous < 65536 → accept_refusal s t c ≡ 0 → NamesHeld t c.proposal.round c.proposal.body.previous
  unfolding accept_refusal numbered
  accepted-held c small ok =
      let x = refusal-passed s t (rules.accept (content_of c.proposal) c.endorsers) ok in
      let f = (accept-passed s t c ok).fits in
      passed _ refl x.1 λ h4 h5 h6 h7 h14 h16 h17 h8 h9 h13 h11.
      held_named s t (content_of c.proposal) small f.to h11

  -- ---- what is kept

  -- u and v are the state and the table then
  pub record Keeps (u : State) (v : List ℕ) : Type 0 where
    pub settings : u.settings ≡ s.settings
    pub blocks : u.blocks ≡ s.blocks
    pub last : last_round v s.blocks ≡ last_round t s.blocks
    pub chain : chain_of s.settings.ceiling v s.blocks ≡ chain_of s.settings.ceiling t s.blocks
    pub rooted : Rooted s.settings.ceiling v
    pub proposal : ProposalRooted u v

  module _ (f : Rooted s.settings.ceiling t) (g : ProposalRooted s t) where
    -- where the state stays, and what was held is held
    table-keeps : {v : List ℕ} → last_round v s.blocks ≡ last_round t s.blocks → chain_of s.settings.ceiling v s.blocks ≡ chain_of s.settings.ceiling t s.blocks → Rooted s.settings.ceiling v → ((a q : ℕ) → 0 < q → held_at t a q ≡ true → held_at v a q ≡ true) → Keeps s v
    table-keeps l e r h = record { settings = refl; blocks = refl; last = l; chain = e; rooted = r; proposal = λ a q z j i. h a q z (g a q z j i) }

    first-keeps : {v : List ℕ} → OnlyFirst t v → Keeps s v
    first-keeps o = table-keeps (last-only o s.blocks) (chain-only o s.settings.ceiling s.blocks) (rooted-first o f) (λ a q z h. held-only o a q z ∙ h)

    pub same-keeps : Keeps s t
    same-keeps = record { settings = refl; blocks = refl; last = refl; chain = refl; rooted = f; proposal = g }

    pub endorse-keeps : (p : Proposal) → Keeps s (set_endorsed t p.author.0 p.round)
    endorse-keeps p =
        let v = set_endorsed t p.author.0 p.round in
        let o = set-endorsed t p.author.0 p.round in
        table-keeps (last-same t v s.blocks (block-round-endorse o s.blocks)) (chain-endorse s.settings.ceiling o s.blocks) (rooted-endorsed o f) (λ a q z h. held-endorse o a q ∙ h)

    pub enqueue-keeps : (i : ℕ) (x : Transaction) → enqueue_refusal s t i x ≡ 0 → Keeps s (added_table t i x)
    enqueue-keeps i x ok = first-keeps (only-added t i x (enqueue-passed s t i x ok).place)

    pub port-keeps : (x : PortCall) → port_refusal s t x ≡ 0 → Keeps s (ported_table s t x)
    port-keeps x ok = first-keeps (only_ported s t x (port-passed s t x ok))

    pub propose-keeps : (b : Body) → b.previous < 65536 → propose_refusal s t b ≡ 0 → Keeps (proposed s b) t
    propose-keeps b small ok = record { settings = refl; blocks = refl; last = refl; chain = refl; rooted = f; proposal = proposed-held b small ok }

    pub draw-keeps : (v : ℕ) → v < 65536 → draw_refusal s t v ≡ 0 → Keeps (proposed s (drawn_body s t v)) (drawn_table (draws s t) t)
    unfolding draw_refusal
    draw-keeps v small ok =
        let o = only-drawn s.settings.allowance (queues_of t) t (draw-passed s t v ok).row in
        let n = proposed-held (drawn_body s t v) (drawn-small s t v small) ok in
        record { settings = refl; blocks = refl; last = last-only o s.blocks; chain = chain-only o s.settings.ceiling s.blocks; rooted = rooted-first o f; proposal = λ a q z e i. held-only o a q z ∙ n a q z e i }

    pub advance-keeps : Keeps (advanced s) t
    advance-keeps = record { settings = refl; blocks = refl; last = refl; chain = refl; rooted = f; proposal = λ a q z e i. absurd (false≢true (sym (in_none a) ∙ i)) }

    pub accept-keeps : (c : Certificate) → c.proposal.body.previous < 65536 → accept_refusal s t c ≡ 0 → Keeps s (clear_endorsed (put_certificate t (content_of c.proposal) c.endorsers) c.proposal.author.0 c.proposal.round)
    accept-keeps c small ok =
        table-keeps (last-same t v s.blocks (block-round-endorse o s.blocks ∙ block-round-put t p c.endorsers at s.blocks)) (chain-endorse s.settings.ceiling o s.blocks ∙ chain-put s.settings.ceiling t p c.endorsers y.formed.long k y.free s.blocks) (rooted-endorsed o (rooted-put t p c.endorsers at k.few small y.free (accepted-held c small ok) f))
        (λ a q z h. held-endorse o a q ∙ held-grows t p c.endorsers at a q h)
      where
        y : AcceptPassed s t c
        y = accept-passed s t c ok

        p : Content
        p = content_of c.proposal

        v : List ℕ
        v = clear_endorsed (put_certificate t p c.endorsers) p.author p.round

        o : OnlyEndorsed p.round (put_certificate t p c.endorsers) v
        o = clear-endorsed (put_certificate t p c.endorsers) p.author p.round

        k : Storable s.settings.ceiling p
        k = placed s t c.proposal y.formed y.fits small

        at : Within t p.author p.round
        at = within t y.formed.long k

    pub certify-keeps : (d : ℕ) → (own_body s).previous < 65536 → certify_refusal s t d ≡ 0 → Keeps s (put_certificate t (content_with s.own.0 s.round (own_body s)) d)
    certify-keeps d small ok =
        table-keeps (last-same t v s.blocks (block-round-put t p d at s.blocks)) (chain-put s.settings.ceiling t p d y.formed.long k y.free s.blocks) (rooted-put t p d at k.few small y.free g f) (λ a q z h. held-grows t p d at a q h)
      where
        y : CertifyPassed s t d
        y = certify-passed s t d ok

        p : Content
        p = content_with s.own.0 s.round (own_body s)

        v : List ℕ
        v = put_certificate t p d

        k : Storable s.settings.ceiling p
        k = own-placed s t y.formed y.proposing small

        at : Within t p.author p.round
        at = within t y.formed.long k
