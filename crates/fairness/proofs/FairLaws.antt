-- Between two transactions drawn from one guest every other guest that is waiting all that time has one drawn.
use Rattle.std.proofs.Common.{◌≡◌, sym, ap, ◌∙◌, subst, true, true≢false, List, [], ◌∷◌, ◌++◌, append_assoc, ◌⊎◌, inl, inr, ◌≢◌, ℕ, ◌<◌, Some}
use Rattle.std.proofs.lemmas.Option.{same_Some, none-some}
use Rattle.base.proofs.Words.{ℕ_discrete, append_snoc}
use Rattle.queues.specs.Queues.{Queues, is_waiting, served}
use Rattle.queues.proofs.DrawLaws.{next-waits}
use Rattle.engine.specs.Calls.{Call}
use Rattle.engine.specs.Engine.{Engine, after}
use Rattle.fairness.specs.Kept.{queues}
use Rattle.fairness.specs.Fairness.{Moment, moments, moments_of, Waits, Drawn, FairIn}
use Rattle.fairness.proofs.GoingRound.{Ahead, ahead-first, not_behind, still-ahead}
use Rattle.fairness.proofs.Timelines.{Follows, by-draw, by_call, by_open, Timeline, last, timeline-join, timeline-first, timeline-rest}
use Rattle.fairness.proofs.CallMoments.{timeline-call, last-call}

-- from the queues q on, where h comes before g, until one is drawn from g
fair_from : (q : Queues) (h g : ℕ) (l : List Moment) (last : Moment) → Ahead q.from h g → is_waiting q h ≡ true → Timeline q (l ++ (last ∷ [])) → Waits h l → last.drew ≡ Some g → Drawn h l
fair_from q h g [] last x w t y e = absurd (go last t.0 e)
  where
    go : (m : Moment) → Follows q m → m.drew ≡ Some g → ⊥
    go m (by-draw k n) r = not_behind q h g x w (n ∙ r)
    go m (by_call p f) r = none-some g r
    go m (by_open p f) r = none-some g r
fair_from q h g (m ∷ l) last x w t y e = go m t.0 y.0 (λ a. fair_from m.then h g l last a y.0 t.1 y.1 e)
  where
    go : (m : Moment) → Follows q m → is_waiting m.then h ≡ true → (Ahead m.then.from h g → Drawn h l) → (m.drew ≡ Some h) ⊎ Drawn h l
    go m (by-draw k n) v f = by (ℕ_discrete k h)
      where
        by : Dec (k ≡ h) → (Some k ≡ Some h) ⊎ Drawn h l
        by (yes r) = inl (ap Some r)
        by (no r) = inr (f (still-ahead q h g x w k n r))
    go m (by_call p r) v f = inr (f (rw r x))
    go m (by_open p r) v f = absurd (true≢false (sym v ∙ r h))

-- one is drawn from g after the queues q, later another, and h is waiting from the first on until the second
fair_after : (q : Queues) (x : Moment) (b : List Moment) (y : Moment) (g h : ℕ) → Follows q x → Timeline x.then (b ++ (y ∷ [])) → x.drew ≡ Some g → y.drew ≡ Some g → h < 8 → h ≢ g → Waits h (x ∷ b) → Drawn h b
fair_after q x b y g h (by-draw k n) t e d l u w =
    let s = same_Some k g e in
    fair_from (served q k) h g b y (rw s (ahead-first g h (next-waits q g (n ∙ ap Some s)).0 l u)) w.0 t w.1 d
fair_after q x b y g h (by_call p r) t e d l u w = absurd (none-some g e)
fair_after q x b y g h (by_open p r) t e d l u w = absurd (none-some g e)

-- of any moments that follow one another
pub fair_moments : (q : Queues) (m : List Moment) → Timeline q m → FairIn m
fair_moments q m t a b d x y g h r e k low other w =
    let u = timeline-rest q a (x ∷ (b ++ (y ∷ d))) (subst (Timeline q) (r ∙ append_assoc a (x ∷ b) (y ∷ d)) t) in
    let v = timeline-first x.then (b ++ (y ∷ [])) d (subst (Timeline x.then) (sym (append_snoc b y d)) u.1) in
    fair_after (last q a) x b y g h u.0 v e k low other w

-- ---- lists of calls

timeline : (e : Engine) (l : List Call) → Timeline (queues e) (moments e l)
unfolding moments
timeline e [] = tt
timeline e (c ∷ l) =
    timeline-join (queues e) (moments_of e c) (moments (after e c) l) (timeline-call e c)
    (subst (λ (q : Queues). Timeline q (moments (after e c) l)) (sym (last-call e c)) (timeline (after e c) l))

-- of every list of calls from any engine
pub fairness : (e : Engine) (calls : List Call) → FairIn (moments e calls)
fairness e l = fair_moments (queues e) (moments e l) (timeline e l)
