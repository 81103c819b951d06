-- The converse: a list of calls is a run of engines where it is one on the views that they show.
use Rattle.std.proofs.Common.{◌≡◌, refl, sym, ap, ap₂, ◌∙◌, subst, subst₂, true, false, List, [], ◌∷◌, ◌⊎◌, inl, inr, ℕ, ◌≤◌}
use Rattle.agreement.specs.Weights.{weigh, total, outside}
use Rattle.agreement.specs.Rules.{Chain}
use Rattle.agreement.proofs.EntryLaws.{related}
use Rattle.terms.specs.Proposals.{Content, content_with}
use Rattle.terms.specs.declared.sheet.Settings.{Settings}
use Rattle.terms.specs.Ranges.{out_of_range, weight_in}
use Rattle.committee.specs.Committees.{committee_of, known_by, bound_of}
use Rattle.rules.specs.Tests.{MemberView}
use Rattle.rules.specs.Calls as rules
use Rattle.rules.specs.Calls.{ruled_refusal, result}
use Rattle.rules.specs.Signatures as signatures
use Rattle.rules.proofs.Implementations.{Implementation}
use Rattle.rules.proofs.Runs as runs
use Rattle.rules.proofs.Runs.{Group, state_after}
use Rattle.rules.proofs.RuleRuns.{on_views, opened}
use Rattle.draw.specs.Draw.{drawn_body}
use Rattle.engine.specs.Calls.{Call, propose, endorse, draw}
use Rattle.engine.specs.Engine.{Engine, refusal_for, after}
use Rattle.engine.specs.Steps.{view_at, ruled}
use Rattle.engine.specs.Reached.{Good}
use Rattle.engine.proofs.RuledLaws.{refusal-ruled, accepted-ruled, good_after, view-after}
use Rattle.nonforking.specs.Statement.{chain, Members, Entry, Takes, certifies, accepts, Proposes, proposes, draws, Endorses, endorses, engine_after, Made, Signed, Fair, WithinBound, Run, engine_behaviour}
use Rattle.nonforking.proofs.Implemented.{Handed}
use Rattle.nonforking.proofs.StartLaws.{starts, start-view, correct-below, group}
use Rattle.nonforking.proofs.RunLaws.{proposal-there, AllHanded}

-- ---- one call

-- member k's engine e is the one of s, and shows its view
pub record Shown (S : Settings) (k : ℕ) (e : Engine) (s : Engine × MemberView S) : Type 0 where
  pub good : Good S k e
  pub same : e ≡ s.0
  pub shows : view_at S e ≡ s.1

module _ {S : Settings} {k : ℕ} {e : Engine} (g : Good S k e) where
  propose-back : (c : Call) (p : Content) → signatures.Proposes S k (view_at S e) (ruled e c) p → Proposes e c p
  propose-back (propose b) p (signatures.proposes x l) = subst (λ (i : ℕ). Proposes e (propose b) (content_with i e.state.round b)) g.own (proposes b)
  propose-back (draw v) p (signatures.proposes x l) =
      let b = drawn_body e.state e.table v in
      subst (λ (i : ℕ). Proposes e (draw v) (content_with i e.state.round b)) g.own (draws v)
  propose-back c p x = elim x [ ]

  endorse-back : (c : Call) (p : Content) → signatures.Endorses (ruled e c) p → Endorses c p
  endorse-back (endorse q) p (signatures.endorses x) = endorses q
  endorse-back c p x = elim x [ ]

  takes-ruled : (c : Call) → refusal_for e c ≡ 0 → (p : Content) (d : ℕ) → Takes e c p d → signatures.Takes S (view_at S e) (ruled e c) p d
  takes-ruled c a p d (certifies x) = signatures.certifies p x (proposal-there e x a)
  takes-ruled c a p d (accepts x) = signatures.accepts p d

  -- a call that is no read of the rules is refused with their number
  pub refusal-by-rules : (c : Call) → (ruled e c ≡ rules.read → ⊥) → refusal_for e c ≡ ruled_refusal S k (view_at S e) (ruled e c)
  refusal-by-rules c n = go (refusal-ruled g c)
    where
      go : (refusal_for e c ≡ ruled_refusal S k (view_at S e) (ruled e c)) ⊎ (ruled e c ≡ rules.read) → refusal_for e c ≡ ruled_refusal S k (view_at S e) (ruled e c)
      go (inl q) = q
      go (inr q) = absurd (n q)

-- ---- a list of calls

-- the rules on views; beside each is the engine, of which it is asked what a call stands for
abbrev pub beside_engines : (S : Settings) → Implementation S
beside_engines S = on_views S Engine Call after ruled

module _ (X : Members engine_behaviour) (fit : out_of_range X.settings ≡ false) where
  open X use {correct, settings}

  -- the members, each with the fresh view
  abbrev pub on_their_views : Group settings (beside_engines settings)
  on_their_views = opened settings Engine Call after ruled (starts X) fit correct (correct-below X)

  pub shown : (l : List Entry) → AllHanded X l → (i : ℕ) → correct i ≡ true → Shown settings i (engine_after X l i) (state_after on_their_views l i)
  shown l p i c =
      related (λ k e c. after e c) (starts X) Handed (beside_engines settings).after on_their_views.start (Shown settings) next i (record { good = (group X).good i c; same = refl; shows = start-view X i c }) l p
    where
      next : (k : ℕ) (e : Engine) (s : Engine × MemberView settings) (c : Call) → Handed k e c → Shown settings k e s → Shown settings k (after e c) ((beside_engines settings).after k s c)
      next k e s c h x =
          record {
            good = good_after x.good c h.0 h.1;
            same = ap (λ (d : Engine). after d c) x.same;
            shows = view-after x.good c h.0 h.1 ∙ ap₂ (λ (d : Engine) (v : MemberView settings). result settings k v (ruled d c)) x.same x.shows;
          }

  made-back : (f : Engine → Call → Type 0) (h : MemberView settings → rules.Call → Type 0) (i : ℕ) → ((s : MemberView settings) → h s rules.read → ⊥)
      → ((e : Engine) → Good settings i e → (c : Call) → h (view_at settings e) (ruled e c) → f e c) → correct i ≡ true → (l : List Entry) → AllHanded X l → runs.Made on_their_views h i l → Made X f i l
  made-back f h i n g c [] p m = absurd m
  made-back f h i n g c (e ∷ l) p (inl m) =
      let x = shown l p.1 i c in
      let y = subst₂ (λ (d : Engine) (v : MemberView settings). (ruled_refusal settings i v (ruled d e.call) ≡ 0) × h v (ruled d e.call)) (sym x.same) (sym x.shows) (m.1, m.2) in
      inl (
        m.0,
        refusal-by-rules x.good e.call (λ q. n (view_at settings (engine_after X l i)) (subst (h (view_at settings (engine_after X l i))) q y.1)) ∙ y.0,
        g (engine_after X l i) x.good e.call y.1,
      )
  made-back f h i n g c (e ∷ l) p (inr m) = inr (made-back f h i n g c l p.1 m)

  signed_back : (l : List Entry) → AllHanded X l → (p : Content) (d : ℕ) → runs.Signed on_their_views p d l → Signed X p d l
  signed_back l k p d x =
      record {
        by_author = λ c. made-back (λ e c. Proposes e c p) (λ s c. signatures.Proposes settings p.author s c p) p.author (λ s z. elim z [ ]) (λ e g c. propose-back g c p) c l k (x.by_author c);
        by_endorsers = λ i c n. made-back (λ e c. Endorses c p) (λ s c. signatures.Endorses c p) i (λ s z. elim z [ ]) (λ e g c. endorse-back g c p) c l k (x.by_endorsers i c n);
      }

  fair_back : (e : Entry) (l : List Entry) → AllHanded X (e ∷ l) → runs.Fair on_their_views e l → Fair X e l
  fair_back e l k x =
      let i = e.who in
      let m = shown l k.1 i x.by in
      record {
        by = x.by;
        is_in_range = k.0.0;
        still_open = k.0.1;
        signed = λ a p d t. signed_back l k.1 p d (x.signed
            (subst₂ (λ (d : Engine) (v : MemberView settings). ruled_refusal settings i v (ruled d e.call) ≡ 0) m.same m.shows (accepted-ruled m.good e.call a)) p d
            (subst₂ (λ (x : Engine) (v : MemberView settings). signatures.Takes settings v (ruled x e.call) p d) m.same m.shows (takes-ruled m.good e.call a p d t)));
      }

  -- what holds of the settings and the chain of a view holds of the engine that shows it
  pub by-view : {i : ℕ} {e : Engine} {s : Engine × MemberView settings} (P : Settings → Chain Content → Type 0) → Shown settings i e s → P settings s.1.chain → P e.state.settings (chain e)
  by-view P m = subst₂ P (sym m.good.settings) (sym (ap (λ (s : MemberView settings). s.chain) m.shows))

  bound-back : (l : List Entry) → AllHanded X l → runs.WithinBound on_their_views l → WithinBound X l
  bound-back l k b j r c from to =
      by-view (λ T x. known_by T x r ≡ true → weigh 16 (weight_in (committee_of T x r)) (outside correct) ≤ bound_of settings.margin (total 16 (weight_in (committee_of T x r)))) (shown l k j c) (b j r c (from, to))

  pub run-back : (l : List Entry) → AllHanded X l → runs.Run on_their_views l → Run X l
  run-back [] k r = bound-back [] k r
  run-back (e ∷ l) k r = (fair_back e l k r.0, bound-back (e ∷ l) k r.1, run-back l k.1 r.2)
