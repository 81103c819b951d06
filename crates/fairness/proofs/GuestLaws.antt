-- A guest adds to no queue but its own, and draws are fair with guests' requests among the calls.
use Rattle.std.proofs.Common.{◌≡◌, refl, sym, ap, ◌∙◌, subst, Bool, true, false, cond, List, [], ◌∷◌, ◌++◌, append_assoc, ◌≢◌, ℕ, eqb, ne_eqb, eqb-true, Option, Some, None}
use Rattle.base.proofs.Words.{ℕ_discrete}
use Rattle.base.specs.Options.{if_there}
use Rattle.terms.specs.declared.Transaction.{Transaction}
use Rattle.state.specs.Answers.{if_accepted}
use Rattle.state.proofs.AnswerLaws.{if_accepted-new, if_accepted-old}
use Rattle.queues.specs.Queues.{Queues, Draw, younger, served, after_draws}
use Rattle.engine.specs.Engine.{Engine, refusal_for, after}
use Rattle.engine.specs.Guests as guest
use Rattle.engine.specs.Guests.{GuestCall, as_host}
use Rattle.submissions.specs.Submissions.{Submission, after_submission}
use Rattle.submissions.specs.Requests as request
use Rattle.submissions.specs.Requests.{Asked, asks, asks_batch, submitted_by, Request, caller_number, result_of, submission_of}
use Rattle.submissions.proofs.RequestLaws.{left_by}
use Rattle.fairness.specs.Kept.{queues, accepted_queues, queues_after}
use Rattle.fairness.specs.Batches.{submission_moments}
use Rattle.fairness.specs.Guests.{LeftOf, request_moments, moments_asked}
use Rattle.fairness.proofs.KeptLaws.{queues_kept}
use Rattle.fairness.proofs.Timelines.{by_call, Timeline, last, timeline-join}
use Rattle.fairness.proofs.FairLaws.{fair_moments}
use Rattle.fairness.proofs.BatchLaws.{batch_keeps_queues, submission_timeline, submission_last}
use Rattle.fairness.specs.Fairness.{FairIn}

-- ---- what is left of a queue

all_left : (a : List Transaction) → LeftOf a a
all_left a = ([], refl)

left-then : {a b d : List Transaction} → LeftOf a b → LeftOf b d → LeftOf a d
left-then {a} {b} {d} x y = (x.0 ++ y.0, x.1 ∙ ap (λ (l : List Transaction). x.0 ++ l) y.1 ∙ sym (append_assoc x.0 y.0 d))

younger-left : (a : List Transaction) → LeftOf a (younger a)
younger-left [] = ([], refl)
younger-left (x ∷ l) = (x ∷ [], refl)

served-left : (q : Queues) (g h : ℕ) → LeftOf (q.waiting h) ((served q g).waiting h)
served-left q g h = go (eqb h g) refl
  where
    go : (b : Bool) → eqb h g ≡ b → LeftOf (q.waiting h) (cond b (younger (q.waiting g)) (q.waiting h))
    go true e = subst (λ (k : ℕ). LeftOf (q.waiting h) (younger (q.waiting k))) (eqb-true h g e) (younger-left (q.waiting h))
    go false e = all_left (q.waiting h)

draws-left : (l : List Draw) (q : Queues) (h : ℕ) → LeftOf (q.waiting h) ((after_draws l q).waiting h)
unfolding after_draws
draws-left [] q h = all_left (q.waiting h)
draws-left (d ∷ l) q h = left-then (served-left q d.guest h) (draws-left l (served q d.guest) h)

-- ---- a request

module _ (e : Engine) (c h : ℕ) (other : h ≢ c) where
  accepted-left : (k : GuestCall) → LeftOf ((queues e).waiting h) ((accepted_queues e (as_host c k)).waiting h)
  accepted-left (guest.draw v) = draws-left _ (queues e) h
  accepted-left (guest.enqueue x) = rw (ne_eqb h c other) (all_left ((queues e).waiting h))
  accepted-left c = all_left ((queues e).waiting h)

  call-left : (k : GuestCall) → LeftOf ((queues e).waiting h) ((queues (after e (as_host c k))).waiting h)
  unfolding queues_after
  call-left k = rw (queues_kept e (as_host c k)) (go (ℕ_discrete (refusal_for e (as_host c k)) 0))
    where
      go : Dec (refusal_for e (as_host c k) ≡ 0) → LeftOf ((queues e).waiting h) ((if_accepted (refusal_for e (as_host c k)) (accepted_queues e (as_host c k)) (queues e)).waiting h)
      go (yes z) = rw (if_accepted-new (refusal_for e (as_host c k)) (accepted_queues e (as_host c k)) (queues e) z) (accepted-left k)
      go (no z) = rw (if_accepted-old (refusal_for e (as_host c k)) (accepted_queues e (as_host c k)) (queues e) z) (all_left ((queues e).waiting h))

  submitted-left : (a : Asked) → LeftOf ((queues e).waiting h) ((queues (after_submission e (submitted_by c a))).waiting h)
  submitted-left (asks k) = call-left k
  submitted-left (asks_batch row answers) = rw (batch_keeps_queues e row answers) (all_left ((queues e).waiting h))

-- a request of caller c adds to no other queue
pub adds_to_no_other : (e : Engine) (c : ℕ) (a : Asked) (h : ℕ) → h ≢ c → LeftOf ((queues e).waiting h) ((queues (result_of e (request.guest c a)).engine).waiting h)
adds_to_no_other e c a h other = rw (left_by e (request.guest c a)) (go (eqb (caller_number e c a) 0))
  where
    go : (b : Bool) → LeftOf ((queues e).waiting h) ((queues (if_there (cond b (Some (submitted_by c a)) None) e (after_submission e))).waiting h)
    go true = submitted-left e c h other a
    go false = all_left ((queues e).waiting h)

-- ---- lists

module _ (e : Engine) where
  moments-timeline : (o : Option Submission) → Timeline (queues e) (if_there o (record { drew = None; then = queues e } ∷ []) (submission_moments e))
  moments-timeline None = (by_call (queues e) refl, tt)
  moments-timeline (Some x) = submission_timeline e x

  moments-last : (o : Option Submission) → last (queues e) (if_there o (record { drew = None; then = queues e } ∷ []) (submission_moments e)) ≡ queues (if_there o e (after_submission e))
  moments-last None = refl
  moments-last (Some x) = submission_last e x

timeline-asked : (e : Engine) (l : List Request) → Timeline (queues e) (moments_asked e l)
unfolding moments_asked
timeline-asked e [] = tt
timeline-asked e (x ∷ l) =
    timeline-join (queues e) (request_moments e x) (moments_asked (result_of e x).engine l) (moments-timeline e (submission_of e x))
    (subst (λ (q : Queues). Timeline q (moments_asked (result_of e x).engine l)) (sym (moments-last e (submission_of e x) ∙ sym (ap queues (left_by e x)))) (timeline-asked (result_of e x).engine l))

pub fairness_with_guests : (e : Engine) (l : List Request) → FairIn (moments_asked e l)
fairness_with_guests e l = fair_moments (queues e) (moments_asked e l) (timeline-asked e l)
