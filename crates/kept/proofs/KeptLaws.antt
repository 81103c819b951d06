-- Laws of what a held certificate keeps over every list of requests.
use Rattle.std.proofs.Common.{◌≡◌, refl, sym, ap, ◌∙◌, subst, Bool, true, false, cond, List, [], ◌∷◌, ◌++◌, ℕ, ◌≤◌, eqb, length, Option, Some, None}
use Rattle.base.specs.Options.{if_there}
use Rattle.agreement.specs.Prefixes.{block_numbered}
use Rattle.agreement.specs.Rules.{Block}
use Rattle.terms.specs.declared.Certificate.{Certificate}
use Rattle.engine.specs.Calls.{Call, accept}
use Rattle.engine.specs.Engine.{Engine, after}
use Rattle.engine.specs.Sequences.{after_calls, NoOpen, NoOpens, after_opening, Opening}
use Rattle.engine.specs.Reached.{Reached}
use Rattle.engine.proofs.GuestLaws.{guest-opens-none}
use Rattle.engine.proofs.GrowthLaws.{Newer}
use Rattle.engine.proofs.ReachedLaws.{calls-lead-to, reached_formed, blocks_stay, numbers_stay}
use Rattle.state.specs.WellFormed.{well_formed}
use Rattle.batch.specs.Batch.{Row, turns_of, batch_refusal}
use Rattle.nonforking.specs.Statement.{chain}
use Rattle.nonforking.specs.Stored.{Holds, Shows}
use Rattle.nonforking.proofs.StoredLaws.{certificate_stays, stored_held, held_stored}
use Rattle.nonforking.proofs.ShownLaws.{stored_shown}
use Rattle.submissions.specs.Submissions.{Submission, one, batch, after_submission, accepts_of, calls_of}
use Rattle.submissions.specs.Requests.{Asked, asks, asks_batch, Request, host, guest, submitted_by, caller_number, submission_of, after_requests, NoOpenAsked, NoOpensAsked}
use Rattle.submissions.proofs.SubmissionLaws.{leaves_as_its_calls}
use Rattle.submissions.proofs.RequestLaws.{left_by}
use Rattle.kept.specs.Kept.{calls_asked, AskedInRange, StoredThen}
use Rattle.terms.specs.Proposals.{Content}

-- ---- what requests leave

-- the calls m, then the calls l
pub after-join : (e : Engine) (l m : List Call) → after_calls e (l ++ m) ≡ after_calls (after_calls e m) l
unfolding after_calls
after-join e [] m = refl
after-join e (c ∷ l) m = ap (λ (x : Engine). after x c) (after-join e l m)

-- requests leave what the calls leave that they count as
pub leaves_as_calls : (e : Engine) (l : List Request) → after_requests e l ≡ after_calls e (calls_asked e l)
unfolding after_requests after_calls calls_asked
leaves_as_calls e [] = refl
leaves_as_calls e (x ∷ l) = left_by (after_requests e l) x ∙ go (submission_of (after_requests e l) x) (leaves_as_calls e l)
  where
    go : (o : Option Submission) → after_requests e l ≡ after_calls e (calls_asked e l)
        → if_there o (after_requests e l) (after_submission (after_requests e l)) ≡ after_calls e (if_there o [] (calls_of (after_requests e l)) ++ calls_asked e l)
    go None h = h
    go (Some s) h =
        leaves_as_its_calls (after_requests e l) s
        ∙ ap (λ (d : Engine). after_calls d (calls_of (after_requests e l) s)) h
        ∙ sym (after-join e (calls_of (after_requests e l) s) (calls_asked e l))

-- ---- no opens

pub no_opens-join : (e : Engine) (l m : List Call) → NoOpens (after_calls e m) l → NoOpens e m → NoOpens e (l ++ m)
unfolding after_calls
no_opens-join e [] m p q = q
no_opens-join e (c ∷ l) m p q = (subst (λ (x : Engine). NoOpen x c) (sym (after-join e l m)) p.0, no_opens-join e l m p.1 q)

-- a batch opens nothing
pub accepts_open_none : (row : Row) (l : List ℕ) (e : Engine) → NoOpens e (accepts_of row l)
unfolding accepts_of after_calls
accepts_open_none row [] e = tt
accepts_open_none row (p ∷ l) e =
    let m = if_there (row.at p).certificate [] (λ c. accept c ∷ []) in
    no_opens-join e (accepts_of row l) m (accepts_open_none row l (after_calls e m)) (go (row.at p).certificate)
  where
    go : (o : Option Certificate) → NoOpens e (if_there o [] (λ c. accept c ∷ []))
    go None = tt
    go (Some c) = ((λ own sheet q. absurd (cc q)), tt)

batch-opens-none : (e : Engine) (row : Row) (answers : List ℕ) → NoOpens e (calls_of e (batch row answers))
batch-opens-none e row answers = go (eqb (batch_refusal e.state e.table row.count (length answers)) 0)
  where
    go : (b : Bool) → NoOpens e (cond b (accepts_of row (turns_of row)) [])
    go true = accepts_open_none row (turns_of row) e
    go false = tt

guest_calls_open_none : (e : Engine) (c : ℕ) (a : Asked) → NoOpens e (calls_of e (submitted_by c a))
unfolding after_calls
guest_calls_open_none e c (asks k) = (guest-opens-none e c k, tt)
guest_calls_open_none e c (asks_batch row answers) = batch-opens-none e row answers

pub asked-opens-none : (e : Engine) (x : Request) → NoOpenAsked e x → NoOpens e (if_there (submission_of e x) [] (calls_of e))
unfolding after_calls
asked-opens-none e (host (one c)) n = (n, tt)
asked-opens-none e (host (batch row answers)) n = batch-opens-none e row answers
asked-opens-none e (guest c a) n = go (eqb (caller_number e c a) 0)
  where
    go : (b : Bool) → NoOpens e (if_there (cond b (Some (submitted_by c a)) None) [] (calls_of e))
    go true = guest_calls_open_none e c a
    go false = tt

no_opens : (e : Engine) (l : List Request) → NoOpensAsked e l → NoOpens e (calls_asked e l)
unfolding calls_asked
no_opens e [] n = tt
no_opens e (x ∷ l) n =
    no_opens-join e (if_there (submission_of (after_requests e l) x) [] (calls_of (after_requests e l))) (calls_asked e l)
    (subst (λ (d : Engine). NoOpens d (if_there (submission_of (after_requests e l) x) [] (calls_of (after_requests e l)))) (leaves_as_calls e l) (asked-opens-none (after_requests e l) x n.0))
    (no_opens e l n.1)

-- ---- the claims

-- every engine that requests lead to is well formed
pub reached_formed_then : (e : Engine) → Reached e → (l : List Request) → AskedInRange e l → well_formed (after_requests e l).state (after_requests e l).table ≡ true
reached_formed_then e r l i = subst (λ (d : Engine). well_formed d.state d.table ≡ true) (sym (leaves_as_calls e l)) (reached_formed (after_calls e (calls_asked e l)) (calls-lead-to e r (calls_asked e l) i))

-- a block once made stays
pub blocks_stay_then : (e : Engine) → Reached e → (l : List Request) → AskedInRange e l → NoOpensAsked e l → Newer (chain e) (chain (after_requests e l))
blocks_stay_then e r l i n = subst (λ (d : Engine). Newer (chain e) (chain d)) (sym (leaves_as_calls e l)) (blocks_stay e r (calls_asked e l) i (no_opens e l n))

pub numbers_stay_then : (e : Engine) → Reached e → (l : List Request) → AskedInRange e l → NoOpensAsked e l → (n : ℕ) (b : Block Content)
    → block_numbered (chain e) n ≡ Some b → block_numbered (chain (after_requests e l)) n ≡ Some b
numbers_stay_then e r l i o n b h =
    subst (λ (d : Engine). block_numbered (chain d) n ≡ Some b) (sym (leaves_as_calls e l)) (numbers_stay e r (calls_asked e l) i (no_opens e l o) n b h)

-- a held certificate stays held, with its proposal and its endorsers, as long as no open is accepted
pub certificate_stays_then : (e : Engine) (l : List Request) → NoOpensAsked e l → (a r : ℕ) (p : Content) (d : ℕ) → Holds e.table a r p d → Holds (after_requests e l).table a r p d
certificate_stays_then e l n a r p d h = subst (λ (x : Engine). Holds x.table a r p d) (sym (leaves_as_calls e l)) (certificate_stays e (calls_asked e l) (no_opens e l n) a r p d h)

-- from an opening: what was taken is held, with the endorsers that it was taken with
pub stored_held_then : (x : Opening) (l : List Request) → AskedInRange (after_opening x) l → (p : Content) (d : ℕ) → StoredThen (after_opening x) l p d → Holds (after_requests (after_opening x) l).table p.author p.round p d
stored_held_then x l i p d k = subst (λ (e : Engine). Holds e.table p.author p.round p d) (sym (leaves_as_calls (after_opening x) l)) (stored_held x (calls_asked (after_opening x) l) i p d k)

-- and what is held was taken, with those endorsers
pub held_stored_then : (x : Opening) (l : List Request) → AskedInRange (after_opening x) l → (a r : ℕ) (p : Content) (d : ℕ) → r ≤ (after_requests (after_opening x) l).state.settings.ceiling
    → Holds (after_requests (after_opening x) l).table a r p d → StoredThen (after_opening x) l p d
held_stored_then x l i a r p d to h =
    let q = leaves_as_calls (after_opening x) l in
    held_stored x (calls_asked (after_opening x) l) i a r p d (subst (λ (e : Engine). r ≤ e.state.settings.ceiling) q to) (subst (λ (e : Engine). Holds e.table a r p d) q h)

-- what is held so, the read shows
pub stored_shown_then : (x : Opening) (l : List Request) → AskedInRange (after_opening x) l → (p : Content) (d : ℕ) → StoredThen (after_opening x) l p d → Shows (after_requests (after_opening x) l) p.author p.round p d
stored_shown_then x l i p d k = subst (λ (e : Engine). Shows e p.author p.round p d) (sym (leaves_as_calls (after_opening x) l)) (stored_shown x (calls_asked (after_opening x) l) i p d k)
