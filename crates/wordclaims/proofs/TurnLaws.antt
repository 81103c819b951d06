-- Certificates that lists of calls take, parted, and those that batches take: at a turn an accept took one exactly where its place is answered 0.
use Rattle.std.proofs.Common.{◌≡◌, refl, sym, ap, ◌∙◌, subst, List, [], ◌∷◌, ◌++◌, ◌⊎◌, inl, inr, ℕ, ◌+◌, ◌<◌, length, get_or, arith, Option, Some, None}
use Rattle.base.specs.Options.{if_there}
use Rattle.base.specs.Folds.{tab}
use Rattle.base.proofs.FoldLaws.{length-tab, get_d_tab}
use Rattle.base.proofs.PasteLaws.{paste-inside}
use Rattle.terms.specs.declared.Certificate.{Certificate}
use Rattle.terms.specs.Proposals.{Content, content_of}
use Rattle.accept.specs.Accept.{accept_table}
use Rattle.engine.specs.Calls.{Call, accept}
use Rattle.engine.specs.Engine.{Engine, refusal_for}
use Rattle.engine.specs.Sequences.{after_calls, NoOpen, NoOpens}
use Rattle.batch.specs.Turns.{leaves}
use Rattle.batch.specs.Batch.{Row, turns_of, number_on, table_after, answer_at, batch_refusal, batch_answers}
use Rattle.batch.proofs.OrderLaws.{each_has_one_turn}
use Rattle.batch.proofs.AnswerLaws.{answer-once}
use Rattle.batch.proofs.BatchLaws.{after-accepts, batch-passed, batch-answers}
use Rattle.nonforking.specs.Statement.{Takes, accepts}
use Rattle.nonforking.specs.Stored.{Stored}
use Rattle.submissions.specs.Submissions.{accepts_of}
use Rattle.kept.proofs.KeptLaws.{after-join, accepts_open_none}

-- ---- lists of calls, the calls l after the calls m

module _ (e : Engine) (m : List Call) (p : Content) (d : ℕ) where
  -- what is taken by l
  pub stored_join : (l : List Call) → Stored (after_calls e m) l p d → Stored e (l ++ m) p d
  stored_join [] x = absurd x
  stored_join (c ∷ l) (inl x) = inl (subst (λ (b : Engine). (refusal_for b c ≡ 0) × Takes b c p d) (sym (after-join e l m)) x)
  stored_join (c ∷ l) (inr x) = inr (subst (λ (b : Engine). NoOpen b c) (sym (after-join e l m)) x.0, stored_join l x.1)

  -- or by m, where l opens nothing
  pub stored_since : (l : List Call) → NoOpens (after_calls e m) l → Stored e m p d → Stored e (l ++ m) p d
  stored_since [] n x = x
  stored_since (c ∷ l) n x = inr (subst (λ (b : Engine). NoOpen b c) (sym (after-join e l m)) n.0, stored_since l n.1 x)

  pub stored_parts : (l : List Call) → Stored e (l ++ m) p d → Stored (after_calls e m) l p d ⊎ (NoOpens (after_calls e m) l × Stored e m p d)
  stored_parts [] x = inr (tt, x)
  stored_parts (c ∷ l) (inl x) = inl (inl (subst (λ (b : Engine). (refusal_for b c ≡ 0) × Takes b c p d) (after-join e l m) x))
  stored_parts (c ∷ l) (inr x) = go (subst (λ (b : Engine). NoOpen b c) (after-join e l m) x.0) (stored_parts l x.1)
    where
      go : NoOpen (after_calls (after_calls e m) l) c → Stored (after_calls e m) l p d ⊎ (NoOpens (after_calls e m) l × Stored e m p d)
          → Stored (after_calls e m) (c ∷ l) p d ⊎ (NoOpens (after_calls e m) (c ∷ l) × Stored e m p d)
      go n (inl y) = inl (inr (n, y))
      go n (inr y) = inr ((n, y.0), y.1)

-- ---- turns

module _ (row : Row) where
  -- what stands at a place counts as
  abbrev this : ℕ → List Call
  this p = if_there (row.at p).certificate [] (λ c. accept c ∷ [])

  -- turns leave what their accepts leave
  after-turns : (l : List ℕ) (e : Engine) → after_calls e (accepts_of row l) ≡ record { state = e.state; table = leaves (table_after e.state row) l e.table }
  unfolding after_calls accepts_of leaves
  after-turns [] e = refl
  after-turns (p ∷ l) e =
      after-join e (accepts_of row l) (this p)
      ∙ ap (λ (x : Engine). after_calls x (accepts_of row l)) (go (row.at p).certificate)
      ∙ after-turns l (record { state = e.state; table = table_after e.state row e.table p })
    where
      go : (o : Option Certificate) → after_calls e (if_there o [] (λ c. accept c ∷ [])) ≡ record { state = e.state; table = if_there o e.table (accept_table e.state e.table) }
      go None = refl
      go (Some c) = after-accepts e c

  -- of the turns l one takes the certificate of p with the endorsers d
  pub record AtTurn (e : Engine) (l : List ℕ) (p : Content) (d : ℕ) : Type 0 where
    pub place : ℕ
    pub former : List ℕ
    pub latter : List ℕ
    pub whole : l ≡ former ++ (place ∷ latter)
    pub certificate : Certificate
    pub offered : (row.at place).certificate ≡ Some certificate
    pub accepted : refusal_for (after_calls e (accepts_of row former)) (accept certificate) ≡ 0
    pub proposal : content_of certificate.proposal ≡ p
    pub endorsers : certificate.endorsers ≡ d

  pub turn_stored : (f m : List ℕ) (q : ℕ) (c : Certificate) → (row.at q).certificate ≡ Some c → (e : Engine) → refusal_for (after_calls e (accepts_of row f)) (accept c) ≡ 0
      → Stored e (accepts_of row (f ++ (q ∷ m))) (content_of c.proposal) c.endorsers
  unfolding accepts_of after_calls
  turn_stored [] m q c o e z = stored_since e (this q) (content_of c.proposal) c.endorsers (accepts_of row m) (accepts_open_none row m (after_calls e (this q))) (rw o (inl (z, accepts c)))
  turn_stored (p ∷ f) m q c o e z =
      stored_join e (this p) (content_of c.proposal) c.endorsers (accepts_of row (f ++ (q ∷ m)))
      (turn_stored f m q c o (after_calls e (this p)) (subst (λ (b : Engine). refusal_for b (accept c) ≡ 0) (after-join e (accepts_of row f) (this p)) z))

  taken_back : (e : Engine) (c : Certificate) (p : Content) (d : ℕ) → Takes e (accept c) p d → (content_of c.proposal ≡ p) × (c.endorsers ≡ d)
  taken_back e c _ _ (accepts _) = (refl, refl)

  pub stored_turn : (l : List ℕ) (e : Engine) (p : Content) (d : ℕ) → Stored e (accepts_of row l) p d → AtTurn e l p d
  unfolding accepts_of after_calls
  stored_turn [] e p d x = absurd x
  stored_turn (q ∷ l) e p d x = go (stored_parts e (this q) p d (accepts_of row l) x) (λ y. stored_turn l (after_calls e (this q)) p d y)
    where
      here : (o : Option Certificate) → (row.at q).certificate ≡ o → Stored e (if_there o [] (λ c. accept c ∷ [])) p d → AtTurn e (q ∷ l) p d
      here None k y = absurd y
      here (Some c) k (inr y) = absurd y.1
      here (Some c) k (inl y) =
          let t = taken_back e c p d y.1 in
          record { place = q; former = []; latter = l; whole = refl; certificate = c; offered = k; accepted = y.0; proposal = t.0; endorsers = t.1 }

      go : Stored (after_calls e (this q)) (accepts_of row l) p d ⊎ (NoOpens (after_calls e (this q)) (accepts_of row l) × Stored e (this q) p d) → (Stored (after_calls e (this q)) (accepts_of row l) p d → AtTurn (after_calls e (this q)) l p d) → AtTurn e (q ∷ l) p d
      go (inl y) f =
          let t = f y in
          record {
            place = t.place;
            former = q ∷ t.former;
            latter = t.latter;
            whole = ap (λ (k : List ℕ). q ∷ k) t.whole;
            certificate = t.certificate;
            offered = t.offered;
            accepted = subst (λ (b : Engine). refusal_for b (accept t.certificate) ≡ 0) (sym (after-join e (accepts_of row t.former) (this q))) t.accepted;
            proposal = t.proposal;
            endorsers = t.endorsers;
          }
      go (inr y) f = here (row.at q).certificate refl y.1

  -- ---- answers

  module _ (e : Engine) (answers : List ℕ) (h : batch_refusal e.state e.table row.count (length answers) ≡ 0) where
    answer-left : (q : ℕ) → q < row.count → get_or (batch_answers e.state e.table row answers) q 0 ≡ answer_at e.state row e.table q
    answer-left q low =
        let f = answer_at e.state row e.table in
        let k = batch-passed e.state e.table row.count (length answers) h in
        let z : 0 + q ≡ q = omega arith in
        rw (batch-answers e.state e.table row answers h) (rw z at (paste-inside answers 0 (tab f row.count) row.count (omega (arith, k.2)) (length-tab f row.count) q low) ∙ get_d_tab f row.count q 0 low)

    -- at its turn a place is answered what accept answers on what the turns before left
    pub answer-turn : (f : List ℕ) (q : ℕ) (m : List ℕ) → turns_of row ≡ f ++ (q ∷ m) → q < row.count
        → get_or (batch_answers e.state e.table row answers) q 0 ≡ if_there (row.at q).certificate 1 (λ c. refusal_for (after_calls e (accepts_of row f)) (accept c))
    answer-turn f q m w low =
        answer-left q low
        ∙ answer-once (each_has_one_turn (λ p. (row.at p).key) row.count) f q m w (table_after e.state row) (number_on e.state row) e.table
        ∙ sym (ap (λ (b : Engine). if_there (row.at q).certificate 1 (λ c. refusal_for b (accept c))) (after-turns f e))
