-- Round after round: what has been listed and reached, and one round more.
use Rattle.std.proofs.Common.{◌≡◌, refl, sym, ap, ◌∙◌, Bool, true, not, ◌&&◌, ◌||◌, cond, List, [], ◌++◌, ℕ, zero, suc, ◌+◌, ◌-◌, ◌<◌, ◌≤◌, arith, add-one, eqb, ltb, length, get_or, replicate, length-append, ne_eqb}
use Rattle.base.proofs.Words.{or-false, false≢true, dec_lt, length-replicate}
use Rattle.base.proofs.Bools.{both}
use Rattle.base.specs.Sets.{only}
use Rattle.base.proofs.UnionLaws.{in_none}
use Rattle.base.specs.Puts.{Puts}
use Rattle.base.proofs.PutLaws.{puts_then, puts_none, puts_as}
use Rattle.store.specs.Table.{held_at, mark_at}
use Rattle.blocks.specs.History.{in_history}
use Rattle.blocks.proofs.HistoryLaws.{history-above}
use Rattle.blocks.specs.Blocks.{count_after}
use Rattle.blocks.proofs.BlockLaws.{count-more, count-step}
use Rattle.prospects.specs.Reaching.{is_reached, Names, Closed, Whole}
use Rattle.prospects.proofs.RowLaws.{rows_same}
use Rattle.prospects.specs.Prospects.{is_new, reach_step, words_step, reach_after, words_after}
use Rattle.prospects.specs.Ready.{StepReady, StepListed, StepsReady}
use Rattle.prospects.proofs.WalkLaws.{or_swap, not_reached, closed-more, closed_less}
use Rattle.prospects.proofs.StepLaws.{step_reach, pass_reach}

-- after i of the rounds above m, where there were k blocks
pub record Stepping (b : Bool) (n : ℕ) (t l : List ℕ) (m k rounds : ℕ) (list₀ list v fresh : List ℕ) (c at i : ℕ) : Type 0 where
  pub so_far : i ≤ rounds
  pub kept : length list ≡ length list₀
  pub sets : 1024 < length fresh
  pub few : c ≤ k + i
  pub count : c ≡ count_after l m i k
  pub words : Puts list₀ list 0 at (words_after t l m i k) (length (words_after t l m i k))
  pub again : Closed b n t v
  pub told : (q a : ℕ) → 0 < q → is_reached b t v a q ≡ (reach_after t l m i a q || (b && not (eqb (mark_at t a q) 0)))

-- ---- the start

zeros : (n q : ℕ) → get_or {A = ℕ} (replicate n 0) q 0 ≡ 0
zeros zero q = refl
zeros (suc n) zero = refl
zeros (suc n) (suc q) = zeros n q

-- what is in a block, if that counts
marked_only : (b : Bool) (t : List ℕ) (a q : ℕ) → is_reached b t (replicate 1025 0) a q ≡ (b && not (eqb (mark_at t a q) 0))
marked_only b t a q = rw (zeros 1025 q, in_none a) refl

marked_is : (m : ℕ) → not (eqb m 0) ≡ true → (m ≡ 0 → ⊥)
marked_is m h e = false≢true (sym (rw e refl) ∙ h)

is_marked : (m : ℕ) → (m ≡ 0 → ⊥) → not (eqb m 0) ≡ true
is_marked m n = rw (ne_eqb m 0 n) refl

pub steps_begin : (b : Bool) (n : ℕ) (t l : List ℕ) (m k rounds : ℕ) (list fresh : List ℕ) {c : ℕ} → (b ≡ true → Whole t l m n) → 1024 < length fresh → c ≡ k → Stepping b n t l m k rounds list list (replicate 1025 0) fresh c 0 0
unfolding count_after words_after reach_after
steps_begin b n t l m k rounds list fresh f h e =
    record {
      so_far = omega arith;
      kept = refl;
      sets = h;
      few = omega arith;
      count = e;
      words = puts_none refl;
      again = record { long = omega (arith, length-replicate {A = ℕ} 1025 0); closed = closed };
      told = λ q a z. marked_only b t a q;
    }
  where
    closed : (i a q : ℕ) → 0 < q → q < n → (b ≡ true → held_at t i (suc q) ≡ true) → Names t i a q → is_reached b t (replicate 1025 0) i (suc q) ≡ true → is_reached b t (replicate 1025 0) a q ≡ true
    closed i a q z y g x u =
        let p = both b (not (eqb (mark_at t i (suc q)) 0)) (sym (marked_only b t i (suc q)) ∙ u) in
        marked_only b t a q ∙ rw (p.0, is_marked (mark_at t a q) ((f p.0).marked i a q z y (g p.0) x (marked_is (mark_at t i (suc q)) p.1))) refl

-- ---- one round more

module _ (t l : List ℕ) (m : ℕ) where
  words_more : (n k : ℕ) → words_after t l m (n + 1) k ≡ words_after t l m n k ++ words_step t l (reach_after t l m n) (m + 1 + n) (count_after l m n k)
  unfolding words_after
  words_more n k = let e : m + suc n ≡ m + 1 + n = omega arith in rw (add-one n, e) refl

  reach_more : (n i q : ℕ) → reach_after t l m (n + 1) i q ≡ reach_step t l (reach_after t l m n) (m + 1 + n) i q
  unfolding reach_after
  reach_more n i q = let e : m + suc n ≡ m + 1 + n = omega arith in rw (add-one n, e) refl

  -- the words only grow
  words_up : (k n d : ℕ) → length (words_after t l m n k) ≤ length (words_after t l m (n + d) k)
  words_up k n zero = let e : n + 0 ≡ n = omega arith in rw e (omega arith)
  words_up k n (suc d) =
      let e : n + suc d ≡ n + d + 1 = omega arith in
      let a = words_up k n d in
      let b = ap (λ (x : List ℕ). length x) (words_more (n + d) k) ∙ length-append (words_after t l m (n + d) k) (words_step t l (reach_after t l m (n + d)) (m + 1 + (n + d)) (count_after l m (n + d) k)) in
      rw e (omega arith)

  -- what counts, counts after one round more
  step_told : (b : Bool) (f : ℕ → ℕ → Bool) (r a q : ℕ) (o : ℕ → ℕ → Bool) (m' : Bool) → o a q ≡ (f a q || m') → reach_step t l o r a q ≡ (reach_step t l f r a q || m')
  unfolding reach_step
  step_told b f r a q o m' e = rw e (or_swap (f a q) m' (ltb (get_or l r 0) 16 && in_history t r (only (get_or l r 0)) a q))

-- what is new, by what earlier anchors reached
new_same : (x o b e : Bool) → o ≡ (x || (b && not e)) → (not o && e) ≡ (not x && e)
new_same x o b e q = rw q (sym (not_reached x b e))

module _ {b : Bool} {n : ℕ} {t l : List ℕ} {m k rounds : ℕ} {list₀ list v fresh : List ℕ} {c at i : ℕ} (x : Stepping b n t l m k rounds list₀ list v fresh c at i) where
  abbrev f : ℕ → ℕ → Bool
  f = reach_after t l m i

  abbrev g : ℕ → ℕ → Bool
  g = is_reached b t v

  abbrev r : ℕ
  r = m + 1 + i

  -- the words of the next round
  next-words : words_step t l g r c ≡ words_step t l f r (count_after l m i k)
  unfolding words_step
  next-words =
      rw (← x.count)
      (ap (λ (w : List ℕ). cond (ltb (get_or l r 0) 16) w [])
      (rows_same (is_new t g (get_or l r 0) r) (is_new t f (get_or l r 0) r) (c + 1) (get_or l r 0) 0 r
      (λ j q h z u. ap (λ (y : Bool). in_history t r (only (get_or l r 0)) j q && y) (new_same (f j q) (g j q) b (eqb (mark_at t j q) 0) (x.told q j z)))))

  more : words_after t l m (i + 1) k ≡ words_after t l m i k ++ words_step t l g r c
  more = words_more t l m i k ∙ ap (λ (w : List ℕ). words_after t l m i k ++ w) (sym next-words)

  -- there is room for them
  steps_room : i < rounds → length (words_after t l m rounds k) ≤ length list₀ → at + length (words_step t l g r c) ≤ length list
  steps_room h room =
      let e : i + 1 + (rounds - (i + 1)) ≡ rounds = omega arith in
      let u = rw e at (words_up t l m k (i + 1) (rounds - (i + 1))) in
      let a = ap (λ (w : List ℕ). length w) more ∙ length-append (words_after t l m i k) (words_step t l g r c) in
      omega (arith, u, a, room, x.kept, x.words.past)

  pub steps_ready : StepsReady t l m n k list₀ → rounds ≡ n - m → (b ≡ true → Whole t l m n) → i < rounds → StepReady b t v fresh l r c list at
  steps_ready p e w h =
      record {
        listed = omega (arith, p.listed, p.above);
        few = omega (arith, x.few, p.few);
        row = omega (arith, p.row, p.above);
        round = omega (arith, p.round, p.above);
        rounds = x.sets;
        earlier = closed_less r (omega (arith, p.above)) x.again;
        anchor = λ d j. (w d).anchors r (omega arith) (omega (arith, p.above)) j;
        room = steps_room h (rw e p.room);
      }

  pub steps_more : {list' v' fresh' : List ℕ} {c' at' : ℕ} → i < rounds → length list' ≡ length list → StepListed b t v l r c list list' at c' at' v' fresh' → Stepping b n t l m k rounds list₀ list' v' fresh' c' at' (i + 1)
  steps_more {v' = v'} {c' = c'} h same y =
      let z = count-step l r c in
      let a = ap (λ (w : List ℕ). length w) more ∙ length-append (words_after t l m i k) (words_step t l g r c) in
      record {
        so_far = omega arith;
        kept = same ∙ x.kept;
        sets = y.rounds;
        few = omega (arith, z, x.few, y.blocks);
        count = y.blocks ∙ rw x.count (sym (count-more l m i k));
        words = puts_as more (omega (arith, a)) (puts_then x.words y.words);
        again = again (dec_lt (get_or l r 0) 16);
        told = λ q j u. y.reaches q j u ∙ step_told t l m b f r j q g (b && not (eqb (mark_at t j q) 0)) (x.told q j u) ∙ ap (λ (d : Bool). d || (b && not (eqb (mark_at t j q) 0))) (sym (reach_more t l m i j q));
      }
    where
      again : Dec (get_or l r 0 < 16) → Closed b n t v'
      again (yes d) = closed-more b n t v x.again (only (get_or l r 0)) r v' y.long (λ q a u. y.reaches q a u ∙ step_reach t l g r c d a q)
      again (no d) = closed-more b n t v x.again 0 0 v' y.long (λ q a u. y.reaches q a u ∙ pass_reach t l g r c (omega arith) a q ∙ rw (history-above t 0 0 a q u) (sym (or-false (g a q))))
