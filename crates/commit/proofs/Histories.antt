-- The histories on the table are those of the theory.
use Rattle.std.proofs.Common.{◌≡◌, refl, sym, ap, ap₂, ◌∙◌, Bool, true, false, ◌&&◌, List, ℕ, zero, suc, ◌-◌, ◌≤◌, ◌<◌, arith, Some}
use Rattle.base.proofs.Words.{dec_lt}
use Rattle.base.specs.Folds.{any_to}
use Rattle.base.proofs.TestLaws.{any_same}
use Rattle.base.specs.Sets.{contains, only}
use Rattle.base.proofs.UnionLaws.{in_only}
use Rattle.agreement.specs.Rules.{Rules}
use Rattle.agreement.specs.View.{View}
use Rattle.agreement.specs.Dag.{is_held, vote, Held, Placed}
use Rattle.agreement.proofs.HistoryLaws.{history_reach, history-here, history-down, history-above}
use Rattle.store.specs.Table.{held_at, previous_at}
use Rattle.blocks.specs.History.{in_history}
use Rattle.blocks.proofs.HistoryLaws as blocks
use Rattle.agreement.specs.Histories as theory

pub record Shows {R : Rules} (s : View R) (c : ℕ) (t : List ℕ) : Type 0 where
  pub sixteen : R.size ≡ 16
  pub placed : Placed s
  pub inside : (a r : ℕ) → is_held (s.dag a r) ≡ true → (0 < r) × (r ≤ c)
  pub held : (a r : ℕ) → 0 < r → r ≤ c → held_at t a r ≡ is_held (s.dag a r)
  pub naming : (a r i : ℕ) (q : R.P) → s.dag a r ≡ Some q → R.names q i ≡ contains (previous_at t a r) i

module _ {R : Rules} {s : View R} {c : ℕ} {t : List ℕ} (S : Shows s c t) where
  open R use {size, P, author, round, names}

  module _ {x : P} (hx : Held s x) (top : round x ≤ c) (low : author x < 16) where
    depth : (d a : ℕ) → d < round x → in_history t (round x) (only (author x)) a (round x - d) ≡ theory.in_history s x (round x - d) a
    depth zero a h =
        let e : round x - 0 ≡ round x = omega arith in
        rw e (blocks.history-here t (round x) (only (author x)) a ∙ in_only (author x) a low ∙ sym (history-here s x a))
    depth (suc d) a h =
        let e : round x - d ≡ p = omega arith in
        blocks.history-down t (round x) (only (author x)) a (round x - suc d) (omega arith)
        ∙ ap₂ ◌&&◌ (S.held a (round x - suc d) (omega arith) (omega arith)) (any_same f g 16 (λ i _. one i (rw e at (depth d i (omega arith)))) ∙ ap (λ (z : ℕ). any_to g z) (sym S.sixteen))
        ∙ sym (history-down s x (round x - suc d) a (omega arith))
      where
        p : ℕ
        p = suc (round x - suc d)

        f : ℕ → Bool
        f i = in_history t (round x) (only (author x)) i p && contains (previous_at t i p) a

        g : ℕ → Bool
        g i = theory.in_history s x p i && vote R a (s.dag i p)

        one : (i : ℕ) → in_history t (round x) (only (author x)) i p ≡ theory.in_history s x p i → f i ≡ g i
        one i e = rw e (go (theory.in_history s x p i) refl)
          where
            go : (b : Bool) → theory.in_history s x p i ≡ b → (b && contains (previous_at t i p) a) ≡ (b && vote R a (s.dag i p))
            go true h = let q = history_reach S.placed hx p i h in rw q.1 (sym (S.naming i p a q.0 q.1))
            go false h = refl

    pub history-same : (a q : ℕ) → 0 < q → in_history t (round x) (only (author x)) a q ≡ theory.in_history s x q a
    history-same a q z = by (dec_lt (round x) q)
      where
        by : Dec (round x < q) → in_history t (round x) (only (author x)) a q ≡ theory.in_history s x q a
        by (yes h) = blocks.history-above t (round x) (only (author x)) a q h ∙ sym (history-above s x q a h)
        by (no h) = let e : round x - (round x - q) ≡ q = omega arith in rw e at (depth (round x - q) a (omega arith))
