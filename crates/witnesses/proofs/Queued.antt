-- A run that is tested on views and guests' queues: beside each view stand the queues, so it is known what a draw proposes.
use Rattle.std.proofs.Common.{◌≡◌, refl, sym, ap, ap₂, ◌∙◌, subst, subst₂, Bool, true, false, cond, not, ◌&&◌, List, [], ◌∷◌, inl, inr, ℕ, ◌<◌, arith, length, eqb, ltb, leb, eqb-true, ltb-true}
use Rattle.base.specs.Checks.{refusal}
use Rattle.base.proofs.Bools.{both}
use Rattle.base.proofs.CheckLaws.{passes}
use Rattle.agreement.specs.Rules.{Chain}
use Rattle.agreement.specs.View.{Knows}
use Rattle.agreement.specs.Quorum.{Tolerant}
use Rattle.agreement.specs.Entries as entries
use Rattle.agreement.specs.Entries.{states}
use Rattle.terms.specs.declared.sheet.Settings.{Settings}
use Rattle.terms.specs.Bodies.{body_of}
use Rattle.terms.specs.Proposals.{Content, content_of}
use Rattle.terms.specs.Ranges.{out_of_range}
use Rattle.terms.specs.Transactions.{in_range}
use Rattle.queues.specs.Queues.{Queues, added, empty_queues, drawn, after_draws, transactions_in}
use Rattle.queues.specs.Words.{queues_of}
use Rattle.committee.specs.Instance as instance
use Rattle.rules.specs.Tests.{MemberView, committee_in}
use Rattle.rules.specs.Calls as rules
use Rattle.rules.specs.Calls.{fresh_view, ruled_refusal, result}
use Rattle.rules.specs.Signatures.{Proposes, proposes, Endorses, endorses, Takes}
use Rattle.rules.proofs.AcceptedMoves.{SetsFit}
use Rattle.rules.proofs.Implementations.{Implementation}
use Rattle.rules.proofs.Runs as runs
use Rattle.rules.proofs.Runs.{Group, state_after, view_after}
use Rattle.rules.proofs.RuleRuns.{on_views, opened}
use Rattle.rules.proofs.RunTests.{is_bounded, is_fair, is_run}
use Rattle.rules.proofs.RunTestLaws.{run-found}
use Rattle.open.specs.Open.{closed_state}
use Rattle.state.specs.Answers.{if_accepted}
use Rattle.enqueue.specs.Enqueue.{enqueue_refusal}
use Rattle.draw.specs.Draw.{drawn_body}
use Rattle.engine.specs.Calls.{Call, opens, propose, endorse, certify, accept, advance, commit, enqueue, draw, port, aside, InRange}
use Rattle.engine.specs.Engine.{Engine, refusal_for, after}
use Rattle.engine.specs.Steps.{view_at, ruled_propose, ruled}
use Rattle.engine.specs.Sequences.{NoOpen}
use Rattle.engine.specs.Reached.{Good}
use Rattle.engine.proofs.RuledLaws.{good_after, view-after}
use Rattle.nonforking.specs.Statement.{chain, Members, engine_after, Run, engine_behaviour}
use Rattle.nonforking.specs.Witness.{Answered, entries, AreAnswered}
use Rattle.nonforking.proofs.Implemented.{sets-fit}
use Rattle.nonforking.proofs.StartLaws.{starts, start-good, start-view, correct-below}
use Rattle.nonforking.proofs.RunLaws.{AllHanded}
use Rattle.nonforking.proofs.Converses.{beside_engines, on_their_views, shown, run-back}
use Rattle.nonforking.proofs.PlainTests.{is_plain, is_in_range, open_refused}
use Rattle.nonforking.proofs.Answers.{an_open, a-port, an_aside, of-rules, case_of, refusal_by, refusal-by}
use Rattle.fairness.specs.Kept.{queues, accepted_queues, queues_after}
use Rattle.fairness.proofs.KeptLaws.{queues_kept}

-- ---- a call

-- with the number that answers it
pub record Told : Type 0 where
  pub call : Call
  pub answer : ℕ

-- its values are in range, it is no open but of a number above 15, and nothing is asked of ports
abbrev pub is_told : Call → Bool
is_told (enqueue g x) = true
is_told c = is_plain c

told-range : (c : Call) → is_told c ≡ true → InRange c
told-range (enqueue g x) h = tt
told-range c h = is_in_range c h

told_open : (e : Engine) (c : Call) → is_told c ≡ true → NoOpen e c
told_open e c h own sheet q n =
    let k = open_refused e own sheet (subst (λ (x : Call). is_told x ≡ true) q h) in
    let z : refusal_for e (opens own sheet) ≡ 0 = subst (λ (x : Call). refusal_for e x ≡ 0) q n in
    absurd (omega (arith, k, z))

-- no engine: a read's checks ask for none
pub nowhere : Engine
nowhere = record { state = closed_state; table = [] }

module _ (S : Settings) where
  -- the call of the rules that it stands for, where the queues are q
  abbrev pub ruled_by : Queues → Call → rules.Call
  ruled_by q (propose b) = ruled_propose b
  ruled_by q (endorse p) = rules.endorse (content_of p)
  ruled_by q (certify d) = rules.certify d
  ruled_by q (accept c) = rules.accept (content_of c.proposal) c.endorsers
  ruled_by q advance = rules.advance
  ruled_by q commit = rules.commit
  ruled_by q (draw v) = ruled_propose (body_of v (transactions_in (drawn S.allowance q)))
  ruled_by q c = rules.read

  -- what an accepted one leaves of them
  abbrev pub queues_by : Queues → Call → Queues
  queues_by q (opens own sheet) = empty_queues
  queues_by q (enqueue g x) = added q g x
  queues_by q (draw v) = after_draws (drawn S.allowance q) q
  queues_by q c = q

  abbrev pub next : Queues → Told → Queues
  next q x = cond (eqb x.answer 0) (queues_by q x.call) q

  -- the rules on views, with the queues beside them
  abbrev pub beside_queues : Implementation S
  beside_queues = on_views S Queues Told next (λ q x. ruled_by q x.call)

  -- the number that answers it
  abbrev pub answer_by : ℕ → MemberView S → Queues → Call → ℕ
  answer_by k s q (opens own sheet) = 4
  answer_by k s q (enqueue g x) = refusal ((ltb 7 g, 26) ∷ (not (in_range x), 6) ∷ (leb 8 (length (q.waiting g)), 27) ∷ [])
  answer_by k s q (port x) = 0
  answer_by k s q (aside x) = refusal_by S k s {e = nowhere} (an_aside x)
  answer_by k s q c = ruled_refusal S k s (ruled_by q c)

  abbrev pub fits : ℕ → Queues × MemberView S → Told → Bool
  fits k s x = is_told x.call && eqb (answer_by k s.1 s.0 x.call) x.answer

  -- the set that a propose or an endorse names
  module _ (k : ℕ) (s : MemberView S) (q : Queues) where
    proposed-fits : (c : Call) → is_told c ≡ true → (p : Content) → Proposes S k s (ruled_by q c) p → p.previous < 65536
    unfolding body_of
    proposed-fits (propose b) h p (proposes x l) = ltb-true b.previous 65536 h
    proposed-fits (draw v) h p (proposes x l) = ltb-true v 65536 h
    proposed-fits c h p x = elim x [ ]

    endorsed-fits : (c : Call) → is_told c ≡ true → (p : Content) → Endorses (ruled_by q c) p → p.previous < 65536
    endorsed-fits (endorse x) h p (endorses y) = ltb-true x.body.previous 65536 h
    endorsed-fits c h p x = elim x [ ]

  fits-found : (k : ℕ) (s : Queues × MemberView S) (x : Told) → fits k s x ≡ true → SetsFit S k s.1 (ruled_by s.0 x.call)
  fits-found k s x h =
      let y = both (is_told x.call) _ h in
      record { proposed = proposed-fits k s.1 s.0 x.call y.0; endorsed = endorsed-fits k s.1 s.0 x.call y.0 }

-- ---- an engine and its view with its queues

module _ {S : Settings} {k : ℕ} {e : Engine} (g : Good S k e) where
  ruled-by : (c : Call) → ruled e c ≡ ruled_by S (queues e) c
  unfolding drawn_body
  ruled-by (draw v) = ap (λ (T : Settings). ruled_propose (body_of v (transactions_in (drawn T.allowance (queues e))))) g.settings
  ruled-by c = refl

  accepted-by : (c : Call) → accepted_queues e c ≡ queues_by S (queues e) c
  accepted-by (draw v) = ap (λ (T : Settings). after_draws (drawn T.allowance (queues e)) (queues e)) g.settings
  accepted-by c = refl

  answer-by : (c : Call) → is_told c ≡ true → refusal_for e c ≡ answer_by S k (view_at S e) (queues e) c
  unfolding enqueue_refusal queues_of
  answer-by (opens own sheet) h = refusal-by g (an_open own sheet) h
  answer-by (enqueue a x) h = passes 1 _ (rw g.formed refl)
  answer-by (port x) h = refusal-by g (a-port x) h
  answer-by (aside x) h = refusal-by g (an_aside x) h
  answer-by (draw v) h = refusal-by g (of-rules (draw v) (λ x. elim x [ ])) h ∙ ap (ruled_refusal S k (view_at S e)) (ruled-by (draw v))
  answer-by c h = refusal-by g (case_of e c) h

-- member k's engine e shows the view and has the queues of s
pub record Seen (S : Settings) (k : ℕ) (e : Engine) (s : Queues × MemberView S) : Type 0 where
  pub good : Good S k e
  pub queued : queues e ≡ s.0
  pub shows : view_at S e ≡ s.1

module _ {S : Settings} {k : ℕ} {e : Engine} {s : Queues × MemberView S} (m : Seen S k e s) where
  answer-seen : (x : Told) → fits S k s x ≡ true → refusal_for e x.call ≡ x.answer
  answer-seen x f =
      let h = both (is_told x.call) _ f in
      answer-by m.good x.call h.0 ∙ ap₂ (λ (v : MemberView S) (q : Queues). answer_by S k v q x.call) m.shows m.queued ∙ eqb-true _ _ h.1

  seen-next : (x : Told) → fits S k s x ≡ true → Seen S k (after e x.call) ((beside_queues S).after k s x)
  unfolding queues_after if_accepted
  seen-next x f =
      let c = x.call in
      let h = both (is_told c) _ f in
      let r = told-range c h.0 in
      let o = told_open e c h.0 in
      record {
        good = good_after m.good c r o;
        queued = queues_kept e c
            ∙ ap₂ (λ (n : ℕ) (q : Queues). cond (eqb n 0) q (queues e)) (answer-seen x f) (accepted-by m.good c)
            ∙ ap (λ (q : Queues). cond (eqb x.answer 0) (queues_by S q c) q) m.queued;
        shows = view-after m.good c r o
            ∙ ap (result S k (view_at S e)) (ruled-by m.good c)
            ∙ ap₂ (λ (v : MemberView S) (q : Queues). result S k v (ruled_by S q c)) m.shows m.queued;
      }

  -- what a draw proposes
  pub drawn-seen : (v : ℕ) → drawn_body e.state e.table v ≡ body_of v (transactions_in (drawn S.allowance s.0))
  unfolding drawn_body
  drawn-seen v = ap₂ (λ (T : Settings) (q : Queues). body_of v (transactions_in (drawn T.allowance q))) m.good.settings m.queued

  -- what holds of the settings and the chain of the view holds of the engine
  pub by-seen : (P : Settings → Chain Content → Type 0) → P S s.1.chain → P e.state.settings (chain e)
  by-seen P = subst₂ P (sym m.good.settings) (sym (ap (λ (v : MemberView S). v.chain) m.shows))

-- ---- a list of calls

abbrev pub told_of : Answered → Told
told_of x = record { call = x.entry.call; answer = x.answer }

abbrev pub told : List Answered → List (entries.Entry Told)
told [] = []
told (x ∷ l) = record { who = x.entry.who; call = told_of x } ∷ told l

module _ (X : Members engine_behaviour) (fit : out_of_range X.settings ≡ false) where
  open X use {correct, settings}

  -- the members, each with the fresh view and nothing waiting
  abbrev pub in_queues : Group settings (beside_queues settings)
  in_queues = opened settings Queues Told (next settings) (λ q x. ruled_by settings q x.call) (λ k. empty_queues) fit correct (correct-below X)

  -- the test: a run of the rules, answered with the numbers that stand at its calls
  abbrev pub is_met : List Answered → Bool
  is_met l = is_run in_queues (fits settings) (told l)

  abbrev AllFit : List Answered → Type 0
  AllFit [] = Unit {0}
  AllFit (x ∷ l) = (correct x.entry.who ≡ true) × (fits settings x.entry.who (state_after in_queues (told l) x.entry.who) (told_of x) ≡ true) × AllFit l

  all-fit : (l : List Answered) → is_met l ≡ true → AllFit l
  unfolding is_run is_fair
  all-fit [] h = tt
  all-fit (x ∷ l) h =
      let a = both (is_fair in_queues (fits settings) (record { who = x.entry.who; call = told_of x }) (told l)) _ h in
      let b = both (correct x.entry.who) _ a.0 in
      let c = both (fits settings x.entry.who (state_after in_queues (told l) x.entry.who) (told_of x)) _ b.1 in
      let d = both (is_bounded in_queues (told (x ∷ l))) _ a.1 in
      (b.0, c.0, all-fit l d.1)

  seen-start : (i : ℕ) → correct i ≡ true → Seen settings i (starts X i) (empty_queues, fresh_view settings)
  unfolding queues_after if_accepted
  seen-start i c =
      record {
        good = start-good X i c;
        queued = queues_kept (X.before i) (opens (record { 0 = i }) (X.sheet i)) ∙ rw (X.accepted i c) refl;
        shows = start-view X i c;
      }

  seen_after : (l : List Answered) → AllFit l → (i : ℕ) → correct i ≡ true → Seen settings i (engine_after X (entries l) i) (state_after in_queues (told l) i)
  unfolding states
  seen_after [] f i c = seen-start i c
  seen_after (x ∷ l) f i c = go (eqb i x.entry.who) refl (seen_after l f.2 i c)
    where
      go : (b : Bool) → eqb i x.entry.who ≡ b → Seen settings i (engine_after X (entries l) i) (state_after in_queues (told l) i)
          → Seen settings i (cond b (after (engine_after X (entries l) i) x.entry.call) (engine_after X (entries l) i)) (cond b ((beside_queues settings).after i (state_after in_queues (told l) i) (told_of x)) (state_after in_queues (told l) i))
      go true q m = seen-next m (told_of x) (subst (λ (j : ℕ). fits settings j (state_after in_queues (told l) j) (told_of x) ≡ true) (sym (eqb-true i x.entry.who q)) f.1)
      go false q m = m

  pub seen : (l : List Answered) → is_met l ≡ true → (i : ℕ) → correct i ≡ true → Seen settings i (engine_after X (entries l) i) (state_after in_queues (told l) i)
  seen l h = seen_after l (all-fit l h)

  all-handed : (l : List Answered) → AllFit l → AllHanded X (entries l)
  all-handed [] f = tt
  all-handed (x ∷ l) f =
      let h = both (is_told x.entry.call) _ f.1 in
      ((told-range x.entry.call h.0, told_open (engine_after X (entries l) x.entry.who) x.entry.call h.0), all-handed l f.2)

  answers_so : (l : List Answered) → AllFit l → AreAnswered X l
  answers_so [] f = tt
  answers_so (x ∷ l) f = (answer-seen (seen_after l f.2 x.entry.who f.0) (told_of x) f.1, answers_so l f.2)

  pub answers-met : (l : List Answered) → is_met l ≡ true → AreAnswered X l
  answers-met l h = answers_so l (all-fit l h)

  -- ---- it is a run on the views beside which the engines stand

  abbrev in_engines : Group settings (beside_engines settings)
  in_engines = on_their_views X fit

  -- both show the same of member i
  record Same (i : ℕ) (l : List Answered) : Type 0 where
    shows : view_after in_queues (told l) i ≡ view_after in_engines (entries l) i
    stands_for : (c : Call) → ruled_by settings (state_after in_queues (told l) i).0 c ≡ ruled (state_after in_engines (entries l) i).0 c

  same : (l : List Answered) → AllFit l → (i : ℕ) → correct i ≡ true → Same i l
  same l f i c =
      let m = seen_after l f i c in
      let v = shown X fit (entries l) (all-handed l f) i c in
      record {
        shows = sym m.shows ∙ v.shows;
        stands_for = λ c. ap (λ (q : Queues). ruled_by settings q c) (sym m.queued) ∙ sym (ruled-by m.good c) ∙ ap (λ (d : Engine). ruled d c) v.same;
      }

  made-same : (h : MemberView settings → rules.Call → Type 0) (i : ℕ) → correct i ≡ true → (l : List Answered) → AllFit l → runs.Made in_queues h i (told l) → runs.Made in_engines h i (entries l)
  made-same h i c [] f m = absurd m
  made-same h i c (x ∷ l) f (inl m) =
      let s = same l f.2 i c in
      let y = subst₂ (λ (v : MemberView settings) (r : rules.Call). (ruled_refusal settings i v r ≡ 0) × h v r) s.shows (s.stands_for x.entry.call) (m.1, m.2) in
      inl (m.0, y.0, y.1)
  made-same h i c (x ∷ l) f (inr m) = inr (made-same h i c l f.2 m)

  signed-same : (l : List Answered) → AllFit l → (p : Content) (d : ℕ) → runs.Signed in_queues p d (told l) → runs.Signed in_engines p d (entries l)
  signed-same l f p d x =
      record {
        by_author = λ c. made-same (λ s c. Proposes settings p.author s c p) p.author c l f (x.by_author c);
        by_endorsers = λ i c n. made-same (λ s c. Endorses c p) i c l f (x.by_endorsers i c n);
      }

  fair_same : (x : Answered) (l : List Answered) → AllFit (x ∷ l) → runs.Fair in_queues (record { who = x.entry.who; call = told_of x }) (told l) → runs.Fair in_engines x.entry (entries l)
  fair_same x l f z =
      let i = x.entry.who in
      let c = x.entry.call in
      let s = same l f.2 i f.0 in
      let d = state_after in_engines (entries l) i in
      let h = both (is_told c) _ f.1 in
      record {
        by = f.0;
        handed = sets-fit settings i d.0 d.1 c (told-range c h.0);
        signed = λ a p n t. signed-same l f.2 p n (z.signed
            (subst₂ (λ (v : MemberView settings) (r : rules.Call). ruled_refusal settings i v r ≡ 0) (sym s.shows) (sym (s.stands_for c)) a) p n
            (subst₂ (λ (v : MemberView settings) (r : rules.Call). Takes settings v r p n) (sym s.shows) (sym (s.stands_for c)) t));
      }

  bound-same : (l : List Answered) → AllFit l → runs.WithinBound in_queues (told l) → runs.WithinBound in_engines (entries l)
  bound-same l f b j r c i =
      subst (λ (v : MemberView settings). Knows v r → Tolerant (instance.rules settings) correct (committee_in settings v r)) (same l f j c).shows (b j r c i)

  run-same : (l : List Answered) → AllFit l → runs.Run in_queues (told l) → runs.Run in_engines (entries l)
  run-same [] f r = bound-same [] f r
  run-same (x ∷ l) f r = (fair_same x l f r.0, bound-same (x ∷ l) f r.1, run-same l f.2 r.2)

  -- a list that passes the test is a run of engines
  pub run-met : (l : List Answered) → is_met l ≡ true → Run X (entries l)
  run-met l h =
      let f = all-fit l h in
      run-back X fit (entries l) (all-handed l f) (run-same l f (run-found in_queues (fits settings) (fits-found settings) (told l) h))
