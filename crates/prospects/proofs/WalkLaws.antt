-- Laws of a walk down a history: what it reaches is added to what counted as reached, and it can end where all of it counted so.
use Rattle.std.proofs.Common.{◌≡◌, refl, sym, ap, ◌∙◌, Bool, true, false, not, ◌&&◌, ◌||◌, List, ◌⊎◌, inl, inr, ℕ, zero, suc, ◌-◌, ◌<◌, ◌≤◌, arith, eqb, length, get_or, set, length-set, get_or-set_same, get_or-set_other, ne_eqb, eqb-true}
use Rattle.base.proofs.Words.{or-true, or-false, false≢true, dec_lt, ℕ_discrete}
use Rattle.base.proofs.Bools.{both}
use Rattle.base.specs.Folds.{any_to}
use Rattle.base.proofs.TestLaws.{any_true, true_any}
use Rattle.base.specs.Sets.{contains, union, intersection, is_subset}
use Rattle.base.proofs.UnionLaws.{in_union, in_intersection, in_none}
use Rattle.store.specs.Table.{mark_at, held_at, previous_at}
use Rattle.blocks.specs.History.{below, in_history}
use Rattle.blocks.proofs.HistoryLaws.{in_below, history-here, history-down, history-above, history-split}
use Rattle.prospects.specs.Reaching.{NewOf, is_reached, Names, Closed, WalkReady, WentDown}

-- ---- choices

either : (a b : Bool) → (a || b) ≡ true → (a ≡ true) ⊎ (b ≡ true)
either true b h = inl refl
either false b h = inr h

-- one more of three
pub or_swap : (x h m : Bool) → ((x || h) || m) ≡ ((x || m) || h)
or_swap true h m = refl
or_swap false true true = refl
or_swap false true false = refl
or_swap false false true = refl
or_swap false false false = refl

or_same : (a b : Bool) → (b ≡ true → a ≡ true) → a ≡ (a || b)
or_same a true f = rw (f refl) refl
or_same a false f = sym (or-false a)

-- of what is in no block, whether it counts as reached is whether it was reached
pub not_reached : (x b e : Bool) → (not x && e) ≡ (not (x || (b && not e)) && e)
not_reached true b e = refl
not_reached false true true = refl
not_reached false true false = refl
not_reached false false true = refl
not_reached false false false = refl

-- ---- one round down

-- a is reached from s of the round above r by somebody
record ReachedBy (t : List ℕ) (s r a : ℕ) : Type 0 where
  who : ℕ
  among : contains s who ≡ true
  names : Names t who a r

below_by : (t : List ℕ) (s r a : ℕ) → contains (below t s (suc r)) a ≡ true → ReachedBy t s r a
below_by t s r a h =
    let z = both (held_at t a r) (any_to (λ i. contains s i && contains (previous_at t i (suc r)) a) 16) (sym (in_below t s r a) ∙ h) in
    let x = any_true (λ i. contains s i && contains (previous_at t i (suc r)) a) 16 z.1 in
    let y = both (contains s x.0) (contains (previous_at t x.0 (suc r)) a) x.2 in
    record { who = x.0; among = y.0; names = record { member = x.1; named = y.1; held = z.0 } }

-- below its round a history goes on from what its set reaches
history-rest : (t : List ℕ) (r s a q : ℕ) → q ≤ r → in_history t (suc r) s a q ≡ in_history t r (below t s (suc r)) a q
history-rest t r s a q h = history-split t r s a q ∙ rw (ne_eqb q (suc r) (λ e. omega arith)) refl

-- ---- what earlier walks reached

module _ (b : Bool) (n : ℕ) (t v : List ℕ) (k : Closed b n t v) where
  -- all of a history counts as reached, if all of its set does
  history-reached : (r s : ℕ) → r ≤ n → (0 < r → (a : ℕ) → contains s a ≡ true → (b ≡ true → held_at t a r ≡ true) × (is_reached b t v a r ≡ true)) → (q a : ℕ) → 0 < q → in_history t r s a q ≡ true → is_reached b t v a q ≡ true
  history-reached zero s l f q a z h = absurd (false≢true (sym (history-above t 0 s a q z) ∙ h))
  history-reached (suc r) s l f q a z h =
      go (either (eqb q (suc r) && contains s a) (in_history t r (below t s (suc r)) a q) (sym (history-split t r s a q) ∙ h)) (λ y. history-reached r (below t s (suc r)) (omega arith) rest q a z y)
    where
      rest : 0 < r → (a : ℕ) → contains (below t s (suc r)) a ≡ true → (b ≡ true → held_at t a r ≡ true) × (is_reached b t v a r ≡ true)
      rest z a e =
          let x = below_by t s r a e in
          let g = f (omega arith) x.who x.among in
          (λ _. x.names.held, k.closed x.who a r z (omega arith) g.0 x.names g.1)

      go : ((eqb q (suc r) && contains s a) ≡ true) ⊎ (in_history t r (below t s (suc r)) a q ≡ true) → (in_history t r (below t s (suc r)) a q ≡ true → is_reached b t v a q ≡ true) → is_reached b t v a q ≡ true
      go (inl y) rec = let p = both (eqb q (suc r)) (contains s a) y in rw (eqb-true q (suc r) p.0) (f (omega arith) a p.1).1
      go (inr y) rec = rec y

  -- with all of a history added, whom one that counts names counts still
  pub closed-more : (s top : ℕ) (w : List ℕ) → 1024 < length w → ((q a : ℕ) → 0 < q → is_reached b t w a q ≡ (is_reached b t v a q || in_history t top s a q)) → Closed b n t w
  closed-more s top w l e = record { long = l; closed = closed }
    where
      below_top : (i q : ℕ) → in_history t top s i (suc q) ≡ true → Dec (q < top) → q < top
      below_top i q y (yes m) = m
      below_top i q y (no m) = absurd (false≢true (sym (history-above t top s i (suc q) (omega arith)) ∙ y))

      closed : (i a q : ℕ) → 0 < q → q < n → (b ≡ true → held_at t i (suc q) ≡ true) → Names t i a q → is_reached b t w i (suc q) ≡ true → is_reached b t w a q ≡ true
      closed i a q z m g x h = e q a z ∙ go (either (is_reached b t v i (suc q)) (in_history t top s i (suc q)) (sym (e (suc q) i (omega arith)) ∙ h))
        where
          go : (is_reached b t v i (suc q) ≡ true) ⊎ (in_history t top s i (suc q) ≡ true) → (is_reached b t v a q || in_history t top s a q) ≡ true
          go (inl y) = rw (k.closed i a q z m g x y) refl
          go (inr y) =
              rw (history-down t top s a q (below_top i q y (dec_lt q top)), x.held, true_any (λ j. in_history t top s j (suc q) && contains (previous_at t j (suc q)) a) 16 i x.member (rw (y, x.named) refl))
              (or-true (is_reached b t v a q))

pub closed_less : {b : Bool} {n : ℕ} {t v : List ℕ} (m : ℕ) → m ≤ n → Closed b n t v → Closed b m t v
closed_less m l k = record { long = k.long; closed = λ i a q z h g x e. k.closed i a q z (omega arith) g x e }

-- ---- the walk

-- a walk down the history of the set s of round top has come to the set `here` of round r, where v has what earlier walks reached
pub record Walking (b : Bool) (t v : List ℕ) (s top : ℕ) (w fresh : List ℕ) (r here : ℕ) : Type 0 where
  pub to : r ≤ top
  pub long : 1024 < length w
  pub rounds : 1024 < length fresh
  pub held : (a : ℕ) → b ≡ true → contains here a ≡ true → held_at t a r ≡ true
  -- the rest of the history is that of `here`, and nothing was added there
  pub rest : (q a : ℕ) → q ≤ r → in_history t r here a q ≡ in_history t top s a q
  pub kept : (q : ℕ) → q ≤ r → get_or w q 0 ≡ get_or v q 0
  -- above all of it was added, and fresh has what is new in it
  pub reaches : (q a : ℕ) → r < q → is_reached b t w a q ≡ (is_reached b t v a q || in_history t top s a q)
  pub new : (q a : ℕ) → r < q → q ≤ top → contains (get_or fresh q 0) a ≡ (in_history t top s a q && (not (is_reached b t v a q) && eqb (mark_at t a q) 0))

-- at its beginning
pub walk_begin : {b : Bool} {t v fresh : List ℕ} {s top : ℕ} → WalkReady b t v fresh s top → Walking b t v s top v fresh top s
walk_begin {b} {t} {v} {fresh} {s} {top} k =
    record {
      to = omega arith;
      long = k.earlier.long;
      rounds = k.rounds;
      held = k.here;
      rest = λ q a _. refl;
      kept = λ q _. refl;
      reaches = λ q a h. rw (history-above t top s a q h) (sym (or-false (is_reached b t v a q)));
      new = λ q a h g. absurd (omega arith);
    }

module _ (b : Bool) (t v : List ℕ) (s top : ℕ) (w fresh : List ℕ) (r here x : ℕ) (l : top ≤ 1024) (k : Walking b t v s top w fresh (suc r) here) (n : NewOf t here (get_or w (suc r) 0) (suc r) x) where
  -- of round r + 1 the walk has `here`
  of-here : (a : ℕ) → contains here a ≡ in_history t top s a (suc r)
  of-here a = sym (history-here t (suc r) here a) ∙ k.rest (suc r) a (omega arith)

  -- w has it then
  add-here : (q a : ℕ) → r < q → Dec (q ≡ suc r) → is_reached b t (set w (suc r) (union (get_or w (suc r) 0) here)) a q ≡ (is_reached b t v a q || in_history t top s a q)
  add-here q a h (yes e) =
      rw (e, get_or-set_same w (suc r) (union (get_or w (suc r) 0) here) 0 (omega (arith, k.to, k.long)), in_union (get_or w (suc r) 0) here a, k.kept (suc r) (omega arith), of-here a)
      (or_swap (contains (get_or v (suc r) 0) a) (in_history t top s a (suc r)) (b && not (eqb (mark_at t a (suc r)) 0)))
  add-here q a h (no f) = rw (get_or-set_other w (suc r) q (union (get_or w (suc r) 0) here) 0 f) (k.reaches q a (omega (arith, f)))

  -- and fresh has what is new in it
  new-here : (q a : ℕ) → r < q → q ≤ top → Dec (q ≡ suc r) → contains (get_or (set fresh (suc r) x) q 0) a ≡ (in_history t top s a q && (not (is_reached b t v a q) && eqb (mark_at t a q) 0))
  new-here q a h m (yes e) =
      rw (e, get_or-set_same fresh (suc r) x 0 (omega (arith, k.to, k.rounds)), ← of-here a, ← k.kept (suc r) (omega arith))
      (n.each a ∙ ap (λ (c : Bool). contains here a && c) (not_reached (contains (get_or w (suc r) 0) a) b (eqb (mark_at t a (suc r)) 0)))
  new-here q a h m (no f) = rw (get_or-set_other fresh (suc r) q x 0 f) (k.new q a (omega (arith, f)) m)

  -- from round r + 1 to round r
  walk-down : Walking b t v s top (set w (suc r) (union (get_or w (suc r) 0) here)) (set fresh (suc r) x) r (below t here (suc r))
  walk-down =
      record {
        to = omega (arith, k.to);
        long = rw (length-set w (suc r) (union (get_or w (suc r) 0) here)) k.long;
        rounds = rw (length-set fresh (suc r) x) k.rounds;
        held = λ a _ e. (below_by t here r a e).names.held;
        rest = λ q a h. sym (history-rest t r here a q h) ∙ k.rest q a (omega arith);
        kept = λ q h. get_or-set_other w (suc r) q (union (get_or w (suc r) 0) here) 0 (λ e. omega arith) ∙ k.kept q (omega arith);
        reaches = λ q a h. add-here q a h (ℕ_discrete q (suc r));
        new = λ q a h m. new-here q a h m (ℕ_discrete q (suc r));
      }

-- one round down
pub walk_step : {b : Bool} {t v : List ℕ} {s top : ℕ} {w fresh : List ℕ} {r here x : ℕ} → 0 < r → top ≤ 1024 → Walking b t v s top w fresh r here → NewOf t here (get_or w r 0) r x
    → Walking b t v s top (set w r (union (get_or w r 0) here)) (set fresh r x) (r - 1) (below t here r)
walk_step {r = zero} z l k n = absurd (omega arith)
walk_step {b} {t} {v} {s} {top} {w} {fresh} {r = suc r} {here} {x} z l k n = let e : suc r - 1 ≡ r = omega arith in rw e (walk-down b t v s top w fresh r here x l k n)

-- ---- its end

-- at round 0, or where all of `here` counts as reached, the walk is at its end
pub walk_end : {b : Bool} {t v : List ℕ} {s top : ℕ} {w fresh : List ℕ} {r here : ℕ} → Closed b top t v → Walking b t v s top w fresh r here → (0 < r → (a : ℕ) → contains here a ≡ true → is_reached b t w a r ≡ true) → WentDown b t v s top r w fresh
walk_end {b} {t} {v} {s} {top} {w} {fresh} {r} {here} c k f = record { down = k.to; long = k.long; rounds = k.rounds; reaches = reaches; old = old; new = k.new }
  where
    old : (q a : ℕ) → 0 < q → q ≤ r → in_history t top s a q ≡ true → is_reached b t v a q ≡ true
    old q a z h e = history-reached b top t v c r here k.to (λ y i g. (λ d. k.held i d g, rw (k.kept r (omega arith)) at (f y i g))) q a z (k.rest q a h ∙ e)

    reaches : (q a : ℕ) → 0 < q → is_reached b t w a q ≡ (is_reached b t v a q || in_history t top s a q)
    reaches q a z = by (dec_lt r q)
      where
        by : Dec (r < q) → is_reached b t w a q ≡ (is_reached b t v a q || in_history t top s a q)
        by (yes h) = k.reaches q a h
        by (no h) = rw (k.kept q (omega arith)) (or_same (is_reached b t v a q) (in_history t top s a q) (old q a z (omega arith)))

-- where it reaches nothing that is not in w
subset_common : (s u : ℕ) → is_subset s u ≡ true → intersection s u ≡ s
unfolding is_subset
subset_common s u e = eqb-true (intersection s u) s e

pub walk_reached : {b : Bool} {t v : List ℕ} {s top : ℕ} {w fresh : List ℕ} {r here : ℕ} → Closed b top t v → Walking b t v s top w fresh r here → is_subset here (get_or w r 0) ≡ true → WentDown b t v s top r w fresh
walk_reached {w = w} {r = r} {here} c k h = walk_end c k (λ z a e. rw (both (contains here a) (contains (get_or w r 0) a) (sym (in_intersection here (get_or w r 0) a) ∙ rw (subset_common here (get_or w r 0) h) e)).1 refl)

-- and, where b, where nothing is new
pub walk_none : {b : Bool} {t v : List ℕ} {s top : ℕ} {w fresh : List ℕ} {r here x : ℕ} → Closed b top t v → Walking b t v s top w fresh r here → NewOf t here (get_or w r 0) r x → b ≡ true → x ≡ 0 → WentDown b t v s top r w fresh
walk_none {t = t} {w = w} {r = r} {here} {x} c k n i e =
    walk_end c k (λ y a h. let z : contains x a ≡ false = rw e (in_none a) in rw i (old (contains (get_or w r 0) a) (eqb (mark_at t a r) 0) (rw h at (sym (n.each a) ∙ z))))
  where
    old : (y z : Bool) → (not y && z) ≡ false → (y || not z) ≡ true
    old true z g = refl
    old false true g = sym g
    old false false g = refl
