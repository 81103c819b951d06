-- Every accepted call but an open and those of ports leaves the words of ports, and the lines of certificates in blocks.
use Rattle.std.proofs.Common.{◌≡◌, Bool, true, false, ℕ}
use Rattle.base.proofs.Words.{false≢true}
use Rattle.terms.specs.Proposals.{content_with, content_of}
use Rattle.store.specs.Writes.{put_certificate}
use Rattle.store.proofs.EndorseLaws.{set-endorsed, clear-endorsed}
use Rattle.store.proofs.FirstRow.{set-endorsed-first, clear-endorsed-first, put_first}
use Rattle.queues.specs.Words.{queues_of}
use Rattle.queues.proofs.AddedLaws.{only-added, added-before}
use Rattle.queues.proofs.DrawLaws.{only-drawn, drawn-before}
use Rattle.ports.specs.Ports.{ports_fit}
use Rattle.ports.proofs.KeptLaws.{PortsKept, kept_same, kept_then, ports-kept}
use Rattle.ports.proofs.WrittenLaws.{before-words, endorse-ports, first-ports, put-ports}
use Rattle.state.specs.WellFormed.{well_formed}
use Rattle.state.proofs.FormedLaws.{formed-ports}
use Rattle.state.proofs.PlaceLaws.{own-within, fits-within}
use Rattle.endorse.proofs.PassedLaws.{endorse-passed}
use Rattle.certify.proofs.PassedLaws.{certify-passed}
use Rattle.accept.proofs.PassedLaws.{accept-passed}
use Rattle.enqueue.proofs.PassedLaws.{enqueue-passed}
use Rattle.draw.proofs.PassedLaws.{draw-passed}
use Rattle.commit.proofs.PreservedLaws.{ports-commit}
use Rattle.engine.specs.Calls.{Call, opens, endorse, certify, accept, commit, enqueue, draw, port}
use Rattle.engine.specs.Engine.{Engine, refusal_for}
use Rattle.engine.proofs.AfterLaws.{renewed}
use Rattle.state.specs.States.{own_body}

abbrev pub leaves_ports : Call → Bool
leaves_ports (opens own sheet) = false
leaves_ports (port x) = false
leaves_ports c = true

module _ (e : Engine) where
  open e use {state, table}

  abbrev n : ℕ
  n = state.settings.ceiling

  pub ports-left : (c : Call) → leaves_ports c ≡ true → refusal_for e c ≡ 0 → PortsKept table (renewed e c).table n state.blocks (renewed e c).state.blocks
  ports-left (opens own sheet) h a = absurd (false≢true h)
  ports-left (endorse p) h a =
      let k = endorse-passed state table p a in
      endorse-ports n state.blocks (set-endorsed table p.author.0 p.round) (set-endorsed-first table p.author.0 p.round k.fits.from)
  ports-left (certify d) h a =
      let k = certify-passed state table d a in
      let p = content_with state.own.0 state.round (own_body state) in
      let w = own-within state table k.formed in
      put-ports table p d w k.free n state.blocks (put_first table p d w k.formed.numbers.round_from)
  ports-left (accept c) h a =
      let k = accept-passed state table c a in
      let p = c.proposal in
      let f = k.fits in
      let w = fits-within state table p k.formed f in
      let held = put_certificate table (content_of p) c.endorsers in
      kept_then
      (put-ports table (content_of p) c.endorsers w k.free n state.blocks (put_first table (content_of p) c.endorsers w f.from))
      (endorse-ports n state.blocks (clear-endorsed held p.author.0 p.round) (clear-endorsed-first held p.author.0 p.round f.from))
  ports-left commit h a = ports-commit state table a
  ports-left (enqueue g x) h a =
      let k = enqueue-passed state table g x a in
      first-ports n state.blocks (only-added table g x k.place) (before-words table _ (added-before table g x k.place))
  ports-left (draw v) h a =
      let k = draw-passed state table v a in
      let q = queues_of table in
      first-ports n state.blocks (only-drawn state.settings.allowance q table k.row) (before-words table _ (drawn-before state.settings.allowance q table k.row))
  ports-left (port x) h a = absurd (false≢true h)
  ports-left c h a = kept_same

  -- so they still fit
  pub ports-fit : (c : Call) → leaves_ports c ≡ true → refusal_for e c ≡ 0 → well_formed state table ≡ true → ports_fit state.settings (renewed e c).table (renewed e c).state.blocks ≡ true
  ports-fit c h a w = ports-kept state.settings table _ state.blocks _ (ports-left c h a) (formed-ports state table w)
