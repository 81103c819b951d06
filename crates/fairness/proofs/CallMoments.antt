-- The moments of a call follow one another, after what was waiting before it.
use Rattle.std.proofs.Common.{◌≡◌, refl, sym, ap, List, [], ◌∷◌, ◌++◌, ℕ, None}
use Rattle.base.proofs.Words.{ℕ_discrete}
use Rattle.state.proofs.AnswerLaws.{if_accepted-new, if_accepted-old}
use Rattle.state.specs.Answers.{if_accepted}
use Rattle.queues.specs.Queues.{Queues, added, empty_queues, after_draws}
use Rattle.draw.specs.Draw.{draws}
use Rattle.engine.specs.Calls.{Call, opens, enqueue, draw}
use Rattle.engine.specs.Engine.{Engine, refusal_for, after}
use Rattle.fairness.specs.Kept.{queues, accepted_draws, draws_of, accepted_queues, queues_after}
use Rattle.fairness.specs.Fairness.{Moment, draw_moments, moments_of}
use Rattle.fairness.proofs.Timelines.{Follows, by_call, by_open, Timeline, last, timeline-join, last-draws, timeline-draws}
use Rattle.fairness.proofs.KeptLaws.{queues_kept}

-- what is waiting, with nothing just drawn
abbrev quiet : Queues → Moment
quiet q = record { drew = None; then = q }

last_more : (q : Queues) (l : List Moment) (m : Moment) → last q (l ++ (m ∷ [])) ≡ m.then
last_more q [] m = refl
last_more q (x ∷ l) m = last_more x.then l m

module _ (e : Engine) where
  -- what an accepted call draws, and what is waiting after it
  accepted-draws : (c : Call) → Timeline (queues e) (draw_moments (queues e) (accepted_draws e c))
  accepted-draws (draw v) = timeline-draws e.state.settings.allowance (queues e)
  accepted-draws c = tt

  accepted-follows : (c : Call) → Follows (last (queues e) (draw_moments (queues e) (accepted_draws e c))) (quiet (accepted_queues e c))
  accepted-follows (opens own sheet) = by_open empty_queues (λ g. refl)
  accepted-follows (enqueue g x) = by_call (added (queues e) g x) refl
  accepted-follows (draw v) =
      let l = draws e.state e.table in
      by_call (after_draws l (queues e)) (ap (λ (q : Queues). q.from) (sym (last-draws (queues e) l)))
  accepted-follows c = by_call (queues e) refl

  -- by the number that refuses
  drawn-by : (c : Call) (n : ℕ) → Timeline (queues e) (draw_moments (queues e) (if_accepted n (accepted_draws e c) []) ++ (quiet (if_accepted n (accepted_queues e c) (queues e)) ∷ []))
  drawn-by c n = go (ℕ_discrete n 0)
    where
      go : Dec (n ≡ 0) → Timeline (queues e) (draw_moments (queues e) (if_accepted n (accepted_draws e c) []) ++ (quiet (if_accepted n (accepted_queues e c) (queues e)) ∷ []))
      go (yes z) =
          rw (if_accepted-new n (accepted_draws e c) [] z, if_accepted-new n (accepted_queues e c) (queues e) z)
          (timeline-join (queues e) (draw_moments (queues e) (accepted_draws e c)) (quiet (accepted_queues e c) ∷ []) (accepted-draws c) (accepted-follows c, tt))
      go (no z) = rw (if_accepted-old n (accepted_draws e c) [] z, if_accepted-old n (accepted_queues e c) (queues e) z) (by_call (queues e) refl, tt)

  module _ (c : Call) where
    pub timeline-call : Timeline (queues e) (moments_of e c)
    unfolding draws_of queues_after
    timeline-call = rw (queues_kept e c) (drawn-by c (refusal_for e c))

    pub last-call : last (queues e) (moments_of e c) ≡ queues (after e c)
    last-call = last_more (queues e) (draw_moments (queues e) (draws_of e c)) (quiet (queues (after e c)))
