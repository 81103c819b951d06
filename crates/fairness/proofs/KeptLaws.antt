-- What every call leaves in guests' queues.
use Rattle.std.proofs.Common.{◌≡◌, refl, ap, ◌∙◌, eq-eqb, ne_eqb}
use Rattle.base.proofs.Words.{ℕ_discrete}
use Rattle.store.proofs.FirstRow.{same_then, put_first, set-endorsed-first, clear-endorsed-first, cleared-first}
use Rattle.terms.specs.Proposals.{content_with, content_of}
use Rattle.store.specs.Writes.{put_certificate, clear_endorsed}
use Rattle.terms.specs.Sheets.{filled}
use Rattle.queues.proofs.WordLaws.{queues-same, queues-clear}
use Rattle.queues.proofs.WordLaws as words
use Rattle.queues.proofs.AddedLaws.{queues-added}
use Rattle.queues.proofs.DrawLaws.{queues-drawn}
use Rattle.state.specs.Answers.{if_accepted}
use Rattle.state.proofs.PlaceLaws.{own-within, fits-within}
use Rattle.endorse.proofs.PassedLaws.{endorse-passed}
use Rattle.certify.proofs.PassedLaws.{certify-passed}
use Rattle.accept.proofs.PassedLaws.{accept-passed}
use Rattle.enqueue.proofs.PassedLaws.{enqueue-passed}
use Rattle.draw.proofs.PassedLaws.{draw-passed}
use Rattle.state.proofs.FormedLaws.{formed}
use Rattle.serial.proofs.LeftLaws.{port-passed, queues_ported}
use Rattle.commit.proofs.CheckLaws as commits
use Rattle.commit.proofs.FirstRow.{first-commit}
use Rattle.engine.specs.Calls.{Call, opens, endorse, certify, accept, commit, enqueue, draw, port}
use Rattle.engine.specs.Engine.{Engine, refusal_for, after}
use Rattle.engine.proofs.AfterLaws.{renewed, refused-same, accepted-new}
use Rattle.fairness.specs.Kept.{queues, accepted_queues, queues_after}
use Rattle.state.specs.States.{own_body}

module _ (e : Engine) where
  open e use {state, table}

  renewed-queues : (c : Call) → refusal_for e c ≡ 0 → queues (renewed e c) ≡ accepted_queues e c
  renewed-queues (opens own sheet) a = queues-clear _ (cleared-first table (filled sheet).ceiling)
  renewed-queues (endorse p) a = let k = endorse-passed state table p a in queues-same table _ (set-endorsed-first table p.author.0 p.round k.fits.from) k.formed.queues
  renewed-queues (certify d) a =
      let k = certify-passed state table d a in
      queues-same table _ (put_first table (content_with state.own.0 state.round (own_body state)) d (own-within state table k.formed) k.formed.numbers.round_from) k.formed.queues
  renewed-queues (accept c) a =
      let k = accept-passed state table c a in
      let p = c.proposal in
      let held = put_certificate table (content_of p) c.endorsers in
      queues-same table _ (same_then table held (clear_endorsed held p.author.0 p.round) (put_first table (content_of p) c.endorsers (fits-within state table p k.formed k.fits) k.fits.from) (clear-endorsed-first held p.author.0 p.round k.fits.from)) k.formed.queues
  renewed-queues commit a = queues-same table _ (first-commit state table a) (commits.accepted state table a).formed.queues
  renewed-queues (enqueue g x) a = let k = enqueue-passed state table g x a in queues-added table g x k.place k.formed.queues
  renewed-queues (draw v) a = let k = draw-passed state table v a in queues-drawn state.settings.allowance table k.row k.formed.queues
  renewed-queues (port x) a = let k = port-passed state table x a in words.queues_kept table _ (queues_ported state table x k) (formed state table k.whole).queues
  renewed-queues c a = refl

-- of every engine and every call
pub queues_kept : (e : Engine) (c : Call) → queues (after e c) ≡ queues_after e c
unfolding queues_after if_accepted
queues_kept e c = go (ℕ_discrete (refusal_for e c) 0)
  where
    go : Dec (refusal_for e c ≡ 0) → queues (after e c) ≡ queues_after e c
    go (yes a) = ap queues (accepted-new e c a) ∙ renewed-queues e c a ∙ rw (eq-eqb (refusal_for e c) 0 a) refl
    go (no n) = ap queues (refused-same e c n) ∙ rw (ne_eqb (refusal_for e c) 0 n) refl
