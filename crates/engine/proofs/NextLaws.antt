-- What each accepted call leaves: the rules' next view, a well-formed state, and nothing changed beyond the used part of the table.
use Rattle.std.proofs.Common.{◌≡◌, refl, sym, ◌∙◌, true, ℕ, ◌<◌, arith}
use Rattle.terms.specs.declared.Member.{Member}
use Rattle.terms.specs.declared.Transaction.{Transaction}
use Rattle.terms.specs.declared.Body.{Body}
use Rattle.terms.specs.declared.Proposal.{Proposal}
use Rattle.terms.specs.declared.Certificate.{Certificate}
use Rattle.terms.specs.Proposals.{transactions_of, content_with, content_of}
use Rattle.store.specs.Writes.{put_certificate, clear_used}
use Rattle.store.proofs.PutLaws.{put-beyond}
use Rattle.store.proofs.EndorseLaws.{set-endorsed, clear-endorsed, endorse-beyond}
use Rattle.store.proofs.ClearLaws.{cleared-beyond}
use Rattle.store.proofs.FirstRow.{only-beyond}
use Rattle.queues.specs.Words.{queues_of}
use Rattle.queues.proofs.WordLaws.{fits_kept}
use Rattle.queues.proofs.AddedLaws.{only-added, fits-added}
use Rattle.queues.proofs.DrawLaws.{only-drawn, fits-drawn}
use Rattle.terms.specs.declared.sheet.Sheet.{Sheet}
use Rattle.terms.specs.Sheets.{filled}
use Rattle.rules.proofs.CallLaws.{after-propose, after-endorse, after-certify, after-accept, after-advance, after_read}
use Rattle.state.specs.View.{view}
use Rattle.state.proofs.ViewLaws.{proposal-some}
use Rattle.state.specs.WellFormed.{well_formed}
use Rattle.state.proofs.FormedLaws.{formed, whole}
use Rattle.state.proofs.PreservedLaws.{propose-kept, advance-kept, endorse-kept, clear_kept, put-kept, first-kept, open_formed}
use Rattle.state.proofs.FirstRow.{view-only}
use Rattle.state.proofs.NextViewLaws.{view-propose, view-advance, view-endorse, view-certify, view-accept, view_open}
use Rattle.state.specs.States.{proposed, own_body}
use Rattle.open.proofs.OpenLaws.{opened}
use Rattle.state.proofs.PlaceLaws.{own-within, fits-within, placed, own-placed}
use Rattle.propose.proofs.PassedLaws.{propose-passed}
use Rattle.endorse.proofs.PassedLaws.{endorse-passed}
use Rattle.certify.proofs.PassedLaws.{certify-passed}
use Rattle.accept.proofs.PassedLaws.{accept-passed}
use Rattle.advance.proofs.PassedLaws.{advance-passed}
use Rattle.enqueue.proofs.PassedLaws.{enqueue-passed}
use Rattle.draw.specs.Draw.{drawn_body}
use Rattle.draw.proofs.PassedLaws.{draw-passed, drawn-small}
use Rattle.commit.proofs.CommitLaws.{view-commit}
use Rattle.commit.proofs.PreservedLaws.{formed-commit, beyond-commit}
use Rattle.engine.specs.Calls.{Aside, opens, propose, endorse, certify, accept, advance, commit, enqueue, draw, port, aside, InRange}
use Rattle.engine.specs.Engine.{Engine, refusal_for}
use Rattle.engine.specs.Steps.{FreshlyOpened, AsRuled, SetInRange}
use Rattle.ports.proofs.KeptLaws.{ports-clear}
use Rattle.ports.proofs.WrittenLaws.{cleared-words}
use Rattle.serial.specs.Calls.{PortCall, PortInRange}
use Rattle.serial.proofs.LeftLaws.{port-passed, only_ported, queues_ported, ports_ported}
use Rattle.engine.proofs.WellLaws.{propose-whole, draw-whole, endorse-whole, certify-whole, accept-whole, advance-whole, commit-whole, enqueue-whole}
use Rattle.engine.proofs.AfterLaws.{renewed}
use Rattle.engine.proofs.PortLaws.{ports-fit}

module _ (e : Engine) where
  open e use {state, table}

  pub open_fresh : (own : Member) (sheet : Sheet) → refusal_for e (opens own sheet) ≡ 0 → FreshlyOpened own sheet e (renewed e (opens own sheet))
  open_fresh own sheet a =
      let k = opened table own (filled sheet) a in
      record {
        its_own = refl;
        its_settings = refl;
        its_rights = refl;
        formed = whole _ _ (open_formed own (filled sheet) sheet.rights table k.member k.is_in_range k.weighty k.long) (ports-clear (filled sheet) (clear_used table (filled sheet).ceiling) 0 (cleared-words table (filled sheet).ceiling));
        shows = view_open own (filled sheet) sheet.rights table;
        set_in_range = omega arith;
        beyond = cleared-beyond table (filled sheet).ceiling;
      }

  pub propose-next : (b : Body) → b.previous < 65536 → refusal_for e (propose b) ≡ 0 → AsRuled e (propose b) (renewed e (propose b))
  propose-next b r a =
      let k = propose-passed state table b a in
      record {
        same_own = refl;
        same_settings = refl;
        same_rights = refl;
        formed = whole _ _ (propose-kept state table k.formed b k.fits) (ports-fit e (propose b) refl a (propose-whole e b a));
        shows = view-propose state table b ∙ sym (after-propose state.settings state.own.0 (view state table) b.previous (transactions_of b));
        set_in_range = r;
        beyond = refl;
      }

  pub draw-next : (v : ℕ) → v < 65536 → refusal_for e (draw v) ≡ 0 → AsRuled e (draw v) (renewed e (draw v))
  draw-next v r a =
      let k = draw-passed state table v a in
      let b = drawn_body state table v in
      let o = only-drawn state.settings.allowance (queues_of table) table k.row in
      record {
        same_own = refl;
        same_settings = refl;
        same_rights = refl;
        formed = whole _ _ (first-kept (proposed state b) table (propose-kept state table k.formed b k.fits) o (fits-drawn state.settings.allowance table k.row k.formed.queues)) (ports-fit e (draw v) refl a (draw-whole e v a));
        shows = view-only (proposed state b) o ∙ view-propose state table b ∙ sym (after-propose state.settings state.own.0 (view state table) b.previous (transactions_of b));
        set_in_range = drawn-small state table v r;
        beyond = only-beyond o state.settings.ceiling;
      }

  -- of calls that leave the state: the previous set in it stays in range
  module _ (low : SetInRange e) where
    pub endorse-next : (p : Proposal) → p.body.previous < 65536 → refusal_for e (endorse p) ≡ 0 → AsRuled e (endorse p) (renewed e (endorse p))
    endorse-next p r a =
        let k = endorse-passed state table p a in
        record {
          same_own = refl;
          same_settings = refl;
          same_rights = refl;
          formed = whole _ _ (endorse-kept state table k.formed p.author.0 p.round k.fits.author k.fits.from k.fits.to) (ports-fit e (endorse p) refl a (endorse-whole e p a));
          shows = view-endorse state table (content_of p) k.formed.long (placed state table p k.formed k.fits r) ∙ sym (after-endorse state.settings state.own.0 (view state table) (content_of p));
          set_in_range = low;
          beyond = endorse-beyond (set-endorsed table p.author.0 p.round) state.settings.ceiling k.fits.to;
        }

    pub certify-next : (d : ℕ) → d < 65536 → refusal_for e (certify d) ≡ 0 → AsRuled e (certify d) (renewed e (certify d))
    certify-next d r a =
        let k = certify-passed state table d a in
        let p = content_with state.own.0 state.round (own_body state) in
        let b = k.formed.proposal k.proposing in
        let place = own-placed state table k.formed k.proposing low in
        record {
          same_own = refl;
          same_settings = refl;
          same_rights = refl;
          formed = whole _ _ (put-kept state table k.formed p d r k.not_among place b.fit b.right) (ports-fit e (certify d) refl a (certify-whole e d a));
          shows = view-certify state table p k.formed.long place d k.free ∙ sym (after-certify state.settings state.own.0 (view state table) d p (proposal-some state k.proposing));
          set_in_range = low;
          beyond = put-beyond table p d (own-within state table k.formed) state.settings.ceiling k.formed.numbers.round_to;
        }

    pub accept-next : (c : Certificate) → InRange (accept c) → refusal_for e (accept c) ≡ 0 → AsRuled e (accept c) (renewed e (accept c))
    accept-next c r a =
        let k = accept-passed state table c a in
        let p = c.proposal in
        let f = k.fits in
        let place = placed state table p k.formed f r.0 in
        let held = put_certificate table (content_of p) c.endorsers in
        let g = put-kept state table k.formed (content_of p) c.endorsers r.1 k.not_among place f.body.fit f.body.right in
        record {
          same_own = refl;
          same_settings = refl;
          same_rights = refl;
          formed = whole _ _ (clear_kept state held g p.author.0 p.round f.author f.from f.to) (ports-fit e (accept c) refl a (accept-whole e c a));
          shows = view-accept state table (content_of p) k.formed.long place c.endorsers k.free ∙ sym (after-accept state.settings state.own.0 (view state table) (content_of p) c.endorsers);
          set_in_range = low;
          beyond = endorse-beyond (clear-endorsed held p.author.0 p.round) state.settings.ceiling f.to
              ∙ put-beyond table (content_of p) c.endorsers (fits-within state table p k.formed f) state.settings.ceiling f.to;
        }

    pub advance-next : refusal_for e advance ≡ 0 → AsRuled e advance (renewed e advance)
    advance-next a =
        let k = advance-passed state table a in
        record {
          same_own = refl;
          same_settings = refl;
          same_rights = refl;
          formed = whole _ _ (advance-kept state table k.formed k.below) (ports-fit e advance refl a (advance-whole e a));
          shows = view-advance state table ∙ sym (after-advance state.settings state.own.0 (view state table));
          set_in_range = omega arith;
          beyond = refl;
        }

    pub commit-next : refusal_for e commit ≡ 0 → AsRuled e commit (renewed e commit)
    commit-next a =
        record {
          same_own = refl;
          same_settings = refl;
          same_rights = refl;
          formed = whole _ _ (formed-commit state table a) (ports-fit e commit refl a (commit-whole e a));
          shows = view-commit state table a;
          set_in_range = low;
          beyond = (beyond-commit state table a).1;
        }

    pub enqueue-next : (g : ℕ) (x : Transaction) → refusal_for e (enqueue g x) ≡ 0 → AsRuled e (enqueue g x) (renewed e (enqueue g x))
    enqueue-next g x a =
        let k = enqueue-passed state table g x a in
        let o = only-added table g x k.place in
        record {
          same_own = refl;
          same_settings = refl;
          same_rights = refl;
          formed = whole _ _ (first-kept state table k.formed o (fits-added table g x k.place k.formed.queues k.is_in_range)) (ports-fit e (enqueue g x) refl a (enqueue-whole e g x a));
          shows = view-only state o ∙ sym (after_read state.settings state.own.0 (view state table));
          set_in_range = low;
          beyond = only-beyond o state.settings.ceiling;
        }

    pub port-next : (x : PortCall) → PortInRange x → refusal_for e (port x) ≡ 0 → AsRuled e (port x) (renewed e (port x))
    port-next x r a =
        let k = port-passed state table x a in
        let f = formed state table k.whole in
        let o = only_ported state table x k in
        record {
          same_own = refl;
          same_settings = refl;
          same_rights = refl;
          formed = whole _ _ (first-kept state table f o (fits_kept table _ (queues_ported state table x k) ∙ f.queues)) (ports_ported state table x k r);
          shows = view-only state o ∙ sym (after_read state.settings state.own.0 (view state table));
          set_in_range = low;
          beyond = only-beyond o state.settings.ceiling;
        }

    pub aside-next : (x : Aside) → well_formed state table ≡ true → AsRuled e (aside x) e
    aside-next x w =
        record {
          same_own = refl;
          same_settings = refl;
          same_rights = refl;
          formed = w;
          shows = sym (after_read state.settings state.own.0 (view state table));
          set_in_range = low;
          beyond = refl;
        }
