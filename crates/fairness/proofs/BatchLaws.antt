-- Batches leave guests' queues, and draws are fair with batches among the calls.
use Rattle.std.proofs.Common.{◌≡◌, refl, sym, ap, ◌∙◌, subst, Bool, true, false, cond, List, [], ◌∷◌, ◌++◌, ℕ, length, eqb, Option, Some, None}
use Rattle.base.specs.Options.{if_there}
use Rattle.terms.specs.declared.Certificate.{Certificate}
use Rattle.state.proofs.AnswerLaws.{if_accepted-same}
use Rattle.queues.specs.Queues.{Queues}
use Rattle.engine.specs.Calls.{Call, accept}
use Rattle.engine.specs.Engine.{Engine, refusal_for, after}
use Rattle.engine.specs.Sequences.{after_calls}
use Rattle.batch.specs.Batch.{Row, turns_of, batch_refusal}
use Rattle.submissions.specs.Submissions.{Submission, one, batch, accepts_of, after_submission}
use Rattle.submissions.proofs.SubmissionLaws.{leaves_as_its_calls}
use Rattle.fairness.specs.Kept.{queues, queues_after}
use Rattle.fairness.specs.Batches.{submission_moments, moments_then}
use Rattle.fairness.proofs.KeptLaws.{queues_kept}
use Rattle.fairness.proofs.Timelines.{by_call, Timeline, last, timeline-join}
use Rattle.fairness.proofs.CallMoments.{timeline-call, last-call}
use Rattle.fairness.proofs.FairLaws.{fair_moments}
use Rattle.fairness.specs.Fairness.{FairIn}

-- an accept leaves them, accepted or refused
accept-keeps : (e : Engine) (c : Certificate) → queues (after e (accept c)) ≡ queues e
unfolding queues_after
accept-keeps e c = queues_kept e (accept c) ∙ if_accepted-same (refusal_for e (accept c)) (queues e)

after_both : (e : Engine) (a b : List Call) → after_calls e (a ++ b) ≡ after_calls (after_calls e b) a
unfolding after_calls
after_both e [] b = refl
after_both e (c ∷ a) b = ap (λ (x : Engine). after x c) (after_both e a b)

accepts_keep : (row : Row) (l : List ℕ) (e : Engine) → queues (after_calls e (accepts_of row l)) ≡ queues e
unfolding accepts_of after_calls
accepts_keep row [] e = refl
accepts_keep row (p ∷ l) e =
    let m = if_there (row.at p).certificate [] (λ c. accept c ∷ []) in
    ap queues (after_both e (accepts_of row l) m) ∙ accepts_keep row l (after_calls e m) ∙ go (row.at p).certificate
  where
    go : (o : Option Certificate) → queues (after_calls e (if_there o [] (λ c. accept c ∷ []))) ≡ queues e
    go None = refl
    go (Some c) = accept-keeps e c

-- a batch leaves the queues
pub batch_keeps_queues : (e : Engine) (row : Row) (answers : List ℕ) → queues (after_submission e (batch row answers)) ≡ queues e
unfolding after_calls
batch_keeps_queues e row answers = ap queues (leaves_as_its_calls e (batch row answers)) ∙ go (eqb (batch_refusal e.state e.table row.count (length answers)) 0)
  where
    go : (b : Bool) → queues (after_calls e (cond b (accepts_of row (turns_of row)) [])) ≡ queues e
    go true = accepts_keep row (turns_of row) e
    go false = refl

-- ---- lists

pub submission_timeline : (e : Engine) (x : Submission) → Timeline (queues e) (submission_moments e x)
submission_timeline e (one c) = timeline-call e c
submission_timeline e (batch row answers) = (by_call _ (ap (λ (q : Queues). q.from) (batch_keeps_queues e row answers)), tt)

pub submission_last : (e : Engine) (x : Submission) → last (queues e) (submission_moments e x) ≡ queues (after_submission e x)
submission_last e (one c) = last-call e c
submission_last e (batch row answers) = refl

timeline-then : (e : Engine) (l : List Submission) → Timeline (queues e) (moments_then e l)
unfolding moments_then
timeline-then e [] = tt
timeline-then e (x ∷ l) =
    timeline-join (queues e) (submission_moments e x) (moments_then (after_submission e x) l) (submission_timeline e x)
    (subst (λ (q : Queues). Timeline q (moments_then (after_submission e x) l)) (sym (submission_last e x)) (timeline-then (after_submission e x) l))

pub fairness_with_batches : (e : Engine) (l : List Submission) → FairIn (moments_then e l)
fairness_with_batches e l = fair_moments (queues e) (moments_then e l) (timeline-then e l)
