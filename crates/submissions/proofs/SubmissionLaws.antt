-- Laws of calls and batches: a submission leaves what its calls leave, so chains never fork where a host submits batches too.
use Rattle.std.proofs.Common.{◌≡◌, refl, sym, ap, ◌∙◌, Bool, true, false, cond, List, [], ◌∷◌, ◌++◌, ℕ, length, eqb, eq-eqb, ne_eqb, eqb-true, Option, Some, None}
use Rattle.base.proofs.Words.{ℕ_discrete}
use Rattle.base.specs.Options.{if_there}
use Rattle.agreement.specs.Entries as entries
use Rattle.agreement.specs.Entries.{states}
use Rattle.terms.specs.declared.Certificate.{Certificate}
use Rattle.accept.specs.Accept.{accept_table}
use Rattle.batch.specs.Turns.{leaves}
use Rattle.engine.specs.Calls.{Call, accept}
use Rattle.engine.specs.Engine.{Engine, after}
use Rattle.engine.specs.Sequences.{after_calls, AllInRange}
use Rattle.engine.specs.Reached.{Reached}
use Rattle.engine.proofs.ReachedLaws.{calls-lead-to}
use Rattle.batch.specs.Batch.{Row, turns_of, table_after, batch_refusal}
use Rattle.batch.proofs.BatchLaws.{after-accepts, batch-refused, batch-table}
use Rattle.nonforking.specs.Statement.{Members, Entry, engine_after, engine_behaviour, Run}
use Rattle.nonforking.proofs.Theorem.{chains_never_fork}
use Rattle.submissions.specs.Submissions.{Submission, one, batch, after_submission, accepts_of, calls_of, entries_of, engine_then, unrolled, AgreedThen}

-- ---- one submission

-- the calls m, then the calls l
after-join : (e : Engine) (l m : List Call) → after_calls e (l ++ m) ≡ after_calls (after_calls e m) l
unfolding after_calls
after-join e [] m = refl
after-join e (c ∷ l) m = ap (λ (x : Engine). after x c) (after-join e l m)

-- turns leave what their accepts leave
after-turns : (row : Row) (l : List ℕ) (e : Engine) → after_calls e (accepts_of row l) ≡ record { state = e.state; table = leaves (table_after e.state row) l e.table }
unfolding after_calls accepts_of leaves
after-turns row [] e = refl
after-turns row (p ∷ l) e =
    after-join e (accepts_of row l) (if_there (row.at p).certificate [] (λ c. accept c ∷ []))
    ∙ ap (λ (x : Engine). after_calls x (accepts_of row l)) (go (row.at p).certificate)
    ∙ after-turns row l (record { state = e.state; table = table_after e.state row e.table p })
  where
    go : (o : Option Certificate) → after_calls e (if_there o [] (λ c. accept c ∷ [])) ≡ record { state = e.state; table = if_there o e.table (accept_table e.state e.table) }
    go None = refl
    go (Some c) = after-accepts e c

-- a submission leaves what its calls leave, one by one
pub leaves_as_its_calls : (e : Engine) (x : Submission) → after_submission e x ≡ after_calls e (calls_of e x)
unfolding after_calls
leaves_as_its_calls e (one c) = refl
leaves_as_its_calls e (batch row answers) = go (ℕ_discrete (batch_refusal e.state e.table row.count (length answers)) 0)
  where
    with-table : {t u : List ℕ} → t ≡ u → ◌≡◌ {A = Engine} (record { state = e.state; table = t }) (record { state = e.state; table = u })
    with-table h = ap (λ (t : List ℕ). record { state = e.state; table = t }) h

    go : Dec (batch_refusal e.state e.table row.count (length answers) ≡ 0) → after_submission e (batch row answers) ≡ after_calls e (calls_of e (batch row answers))
    go (yes h) = rw (eq-eqb (batch_refusal e.state e.table row.count (length answers)) 0 h) (with-table (batch-table e.state e.table row answers h) ∙ sym (after-turns row (turns_of row) e))
    go (no n) = rw (ne_eqb (batch_refusal e.state e.table row.count (length answers)) 0 n) (with-table (batch-refused e.state e.table row answers n).0)

-- so what is so of every engine that calls lead to is so of those that batches lead to
pub batches_lead_to : (e : Engine) → Reached e → (x : Submission) → AllInRange (calls_of e x) → Reached (after_submission e x)
batches_lead_to e r x i = rw (leaves_as_its_calls e x) (calls-lead-to e r (calls_of e x) i)

-- ---- a list of submissions

module _ (X : Members engine_behaviour) where
  -- one member's calls, and then those of others
  after-entries : (k : ℕ) (l : List Call) (m : List Entry) (i : ℕ) → engine_after X (entries_of k l ++ m) i ≡ cond (eqb i k) (after_calls (engine_after X m i) l) (engine_after X m i)
  unfolding states after_calls
  after-entries k [] m i = go (eqb i k)
    where
      go : (b : Bool) → engine_after X m i ≡ cond b (engine_after X m i) (engine_after X m i)
      go true = refl
      go false = refl
  after-entries k (c ∷ l) m i = rw (after-entries k l m i) (go (eqb i k))
    where
      go : (b : Bool) → cond b (after (cond b (after_calls (engine_after X m i) l) (engine_after X m i)) c) (cond b (after_calls (engine_after X m i) l) (engine_after X m i))
          ≡ cond b (after (after_calls (engine_after X m i) l) c) (engine_after X m i)
      go true = refl
      go false = refl

  -- each member's engine is the one after the unrolled list
  pub then-unrolled : (l : List (entries.Entry Submission)) (i : ℕ) → engine_then X l i ≡ engine_after X (unrolled X l) i
  unfolding states unrolled
  then-unrolled [] i = refl
  then-unrolled (x ∷ l) i = go (eqb i x.who) refl (then-unrolled l i) ∙ sym (after-entries x.who (calls_of (engine_then X l x.who) x.call) (unrolled X l) i)
    where
      go : (b : Bool) → eqb i x.who ≡ b → engine_then X l i ≡ engine_after X (unrolled X l) i
          → cond b (after_submission (engine_then X l i) x.call) (engine_then X l i)
          ≡ cond b (after_calls (engine_after X (unrolled X l) i) (calls_of (engine_then X l x.who) x.call)) (engine_after X (unrolled X l) i)
      go true e h =
          leaves_as_its_calls (engine_then X l i) x.call
          ∙ ap (λ (k : ℕ). after_calls (engine_then X l i) (calls_of (engine_then X l k) x.call)) (eqb-true i x.who e)
          ∙ ap (λ (d : Engine). after_calls d (calls_of (engine_then X l x.who) x.call)) h
      go false e h = h

-- chains never fork with batches as entries
pub chains_never_fork_with_batches : (X : Members engine_behaviour) (l : List (entries.Entry Submission)) → Run X (unrolled X l) → AgreedThen X l
chains_never_fork_with_batches X l r = record { agreed = chains_never_fork X (unrolled X l) r; engines = then-unrolled X l }
