-- Laws of requests: what a caller lacking a right learns and changes, what one with it does, and what lists of requests lead to.
use Rattle.std.proofs.Common.{◌≡◌, refl, sym, ap, ◌∙◌, Bool, true, false, cond, List, [], ◌∷◌, ◌≢◌, ℕ, eqb, eq-eqb, ne_eqb, eqb-true, Option, Some, None}
use Rattle.base.specs.Options.{if_there}
use Rattle.agreement.specs.Entries as entries
use Rattle.agreement.specs.Entries.{states}
use Rattle.terms.proofs.RightLaws.{allowed, barred}
use Rattle.engine.specs.Engine.{Engine}
use Rattle.engine.specs.Reached.{Reached}
use Rattle.engine.proofs.GuestLaws.{call-rights, guest-opens-none}
use Rattle.engine.specs.Guests.{as_host}
use Rattle.nonforking.specs.Statement.{Members, engine_behaviour}
use Rattle.nonforking.proofs.Theorem.{chains_never_fork}
use Rattle.submissions.specs.Submissions.{Submission, one, batch, after_submission, engine_then, unrolled}
use Rattle.submissions.specs.Requests.{Asked, asks, asks_batch, needed_for, submitted_by, Request, host, guest, refused_with, host_result, caller_number, result_of, submission_of, NoOpenAsked, after_requests, InRangeThen, engine_asked, submitted, ChainsNeverForkWithGuests, Allowed, Lacks, AlikeAndUnchanged, NoOpensAsked}
use Rattle.submissions.proofs.SubmissionLaws.{batches_lead_to, then-unrolled}

-- ---- one request

module _ (e : Engine) (c : ℕ) (a : Asked) where
  -- refused by its rights
  result-barred : caller_number e c a ≢ 0 → result_of e (guest c a) ≡ refused_with e (submitted_by c a) (caller_number e c a)
  unfolding result_of
  result-barred n = rw (ne_eqb (caller_number e c a) 0 n) refl

  result-allowed : caller_number e c a ≡ 0 → result_of e (guest c a) ≡ host_result e (submitted_by c a)
  unfolding result_of
  result-allowed h = rw (eq-eqb (caller_number e c a) 0 h) refl

-- with the right a caller does and answers what the host's own would
pub allowed_as_host : (e : Engine) (c : ℕ) (a : Asked) → Allowed e c a → result_of e (guest c a) ≡ result_of e (host (submitted_by c a))
unfolding result_of
allowed_as_host e c a h = result-allowed e c a (allowed e.state.rights (needed_for a) c h)

-- noninterference: of two engines with the same rights, whatever else they hold, a caller lacking a right learns nothing by what needs it, and changes nothing
pub noninterference : (e d : Engine) → e.state.rights ≡ d.state.rights → (c : ℕ) (a : Asked) → Lacks e c a → AlikeAndUnchanged e d (guest c a)
noninterference e d q c a h =
    let n = barred e.state.rights (needed_for a) c h in
    let x = result-barred e c a n in
    let y = result-barred d c a (rw (← q) n) in
    record {
      same_refusal = rw (x, y, q) refl;
      same_value = rw (x, y) refl;
      first_answers = rw x refl;
      second_answers = rw y refl;
      first_unchanged = rw x refl;
      second_unchanged = rw y refl;
    }

-- ---- what is left

host-left : (e : Engine) (x : Submission) → (host_result e x).engine ≡ after_submission e x
host-left e (one c) = refl
host-left e (batch row answers) = refl

-- a request leaves what its submission leaves, or nothing has changed
pub left_by : (e : Engine) (x : Request) → (result_of e x).engine ≡ if_there (submission_of e x) e (after_submission e)
unfolding result_of
left_by e (host x) = host-left e x
left_by e (guest c a) = go (eqb (caller_number e c a) 0)
  where
    go : (b : Bool) → (cond b (host_result e (submitted_by c a)) (refused_with e (submitted_by c a) (caller_number e c a))).engine
        ≡ if_there (cond b (Some (submitted_by c a)) None) e (after_submission e)
    go true = host-left e (submitted_by c a)
    go false = refl

-- what is so of every engine that calls lead to is so of those that requests lead to
pub requests_lead_to : (e : Engine) → Reached e → (x : Request) → InRangeThen e (submission_of e x) → Reached (result_of e x).engine
requests_lead_to e r x i = rw (left_by e x) (go (submission_of e x) i)
  where
    go : (o : Option Submission) → InRangeThen e o → Reached (if_there o e (after_submission e))
    go None i = r
    go (Some s) i = batches_lead_to e r s i

-- ---- rights

submission_rights : (e : Engine) (c : ℕ) (a : Asked) → (after_submission e (submitted_by c a)).state.rights ≡ e.state.rights
submission_rights e c (asks k) = call-rights e (as_host c k) (guest-opens-none e c k)
submission_rights e c (asks_batch row answers) = refl

request-rights : (e : Engine) (x : Request) → NoOpenAsked e x → (result_of e x).engine.state.rights ≡ e.state.rights
unfolding result_of
request-rights e (host (one c)) n = call-rights e c n
request-rights e (host (batch row answers)) n = refl
request-rights e (guest c a) n = go (eqb (caller_number e c a) 0)
  where
    go : (b : Bool) → (cond b (host_result e (submitted_by c a)) (refused_with e (submitted_by c a) (caller_number e c a))).engine.state.rights ≡ e.state.rights
    go true = ap (λ (d : Engine). d.state.rights) (host-left e (submitted_by c a)) ∙ submission_rights e c a
    go false = refl

-- rights stay as the open fixed them, whatever hosts and guests ask
pub rights_stay_then : (e : Engine) (l : List Request) → NoOpensAsked e l → (after_requests e l).state.rights ≡ e.state.rights
unfolding after_requests
rights_stay_then e [] n = refl
rights_stay_then e (x ∷ l) n = request-rights (after_requests e l) x n.0 ∙ rights_stay_then e l n.1

-- ---- lists of members' requests

module _ (X : Members engine_behaviour) where
  -- each member's engine is the one after what is submitted
  asked-submitted : (l : List (entries.Entry Request)) (i : ℕ) → engine_asked X l i ≡ engine_then X (submitted X l) i
  unfolding states submitted
  asked-submitted [] i = refl
  asked-submitted (x ∷ l) i = go (submission_of (engine_asked X l x.who) x.call) (left_by (engine_asked X l x.who) x.call) (asked-submitted l i)
    where
      go : (o : Option Submission) → (result_of (engine_asked X l x.who) x.call).engine ≡ if_there o (engine_asked X l x.who) (after_submission (engine_asked X l x.who))
          → engine_asked X l i ≡ engine_then X (submitted X l) i
          → cond (eqb i x.who) (result_of (engine_asked X l i) x.call).engine (engine_asked X l i)
          ≡ engine_then X (if_there o (submitted X l) (λ s. record { who = x.who; call = s } ∷ submitted X l)) i
      go None q h = by-none (eqb i x.who) refl
        where
          by-none : (b : Bool) → eqb i x.who ≡ b → cond b (result_of (engine_asked X l i) x.call).engine (engine_asked X l i) ≡ engine_then X (submitted X l) i
          by-none true e = ap (λ (k : ℕ). (result_of (engine_asked X l k) x.call).engine) (eqb-true i x.who e) ∙ q ∙ ap (engine_asked X l) (sym (eqb-true i x.who e)) ∙ h
          by-none false e = h
      go (Some s) q h = by-some (eqb i x.who) refl
        where
          by-some : (b : Bool) → eqb i x.who ≡ b → cond b (result_of (engine_asked X l i) x.call).engine (engine_asked X l i)
              ≡ cond b (after_submission (engine_then X (submitted X l) i) s) (engine_then X (submitted X l) i)
          by-some true e =
              ap (λ (k : ℕ). (result_of (engine_asked X l k) x.call).engine) (eqb-true i x.who e)
              ∙ q
              ∙ ap (λ (k : ℕ). after_submission (engine_asked X l k) s) (sym (eqb-true i x.who e))
              ∙ ap (λ (d : Engine). after_submission d s) h
          by-some false e = h

pub chains_never_fork_with_guests : ChainsNeverForkWithGuests
chains_never_fork_with_guests X l r = record { agreed = chains_never_fork X (unrolled X (submitted X l)) r; engines = λ i. asked-submitted X l i ∙ then-unrolled X (submitted X l) i }
