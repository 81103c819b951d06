-- Laws of leaders.
use Rattle.std.proofs.Common.{◌≡◌, refl, sym, ap, ◌∙◌, Bool, true, false, cond, ◌&&◌, List, ℕ, zero, suc, ◌/◌, ◌%◌, ◌≤◌, ◌<◌, arith, eqb, leb, ltb, eq-eqb, ne_eqb, le-leb, lt-ltb, le-ltb, None, unwrap_or}
use Rattle.base.proofs.Words.{and-false, ℕ_discrete, dec_lt, lt-leb}
use Rattle.base.specs.Folds.{fold_to}
use Rattle.base.proofs.Ranges.{fold_none, fold_next}
use Rattle.base.specs.Sets.{contains, insert}
use Rattle.base.proofs.SetLaws.{in_insert}
use Rattle.base.proofs.UnionLaws.{in_none}
use Rattle.terms.specs.declared.sheet.Weight.{Weight}
use Rattle.terms.specs.Ranges.{weight_in}
use Rattle.committee.specs.Positions.{count_below, member_below}
use Rattle.committee.proofs.PositionLaws.{count_same, below_none, below-same, below_le}
use Rattle.committee.specs.Leaders.{member_at, members, leader_of, joined, member_set}

-- nobody stands at a position that the count does not reach
pub at_none : (set : ℕ → Bool) (k : ℕ) → count_below set 16 ≤ k → member_at set k ≡ None
unfolding member_at
at_none set k h = below_none set 16 k h

-- ---- the members as a set

set_in : (w : List Weight) (n i : ℕ) → n ≤ 16 → contains (fold_to (joined w) n 0) i ≡ (ltb i n && members (weight_in w) i)
unfolding joined
set_in w zero i h = rw (fold_none (joined w) 0, in_none i, le-ltb i 0 (omega arith)) refl
set_in w (suc n) i h = ap (λ (s : ℕ). contains s i) (fold_next (joined w) n 0) ∙ go (members (weight_in w) n) refl (ℕ_discrete n i) (set_in w n i (omega arith))
  where
    low : (n ≡ i → ⊥) → ltb i (suc n) ≡ ltb i n
    low d = by (dec_lt i n)
      where
        by : Dec (i < n) → ltb i (suc n) ≡ ltb i n
        by (yes l) = rw (lt-ltb i n l, lt-ltb i (suc n) (omega arith)) refl
        by (no l) = rw (le-ltb i n (omega arith), le-ltb i (suc n) (omega arith)) refl

    go : (b : Bool) → members (weight_in w) n ≡ b → Dec (n ≡ i) → contains (fold_to (joined w) n 0) i ≡ (ltb i n && members (weight_in w) i)
        → contains (cond b (insert (fold_to (joined w) n 0) n) (fold_to (joined w) n 0)) i ≡ (ltb i (suc n) && members (weight_in w) i)
    go true e (yes q) f = rw (in_insert (fold_to (joined w) n 0) n i (omega arith), eq-eqb n i q, lt-ltb i (suc n) (omega arith)) (sym (rw q at e))
    go true e (no q) f = rw (in_insert (fold_to (joined w) n 0) n i (omega arith), ne_eqb n i q, low q) f
    go false e (yes q) f = f ∙ rw (le-ltb i n (omega arith), lt-ltb i (suc n) (omega arith)) (sym (rw q at e))
    go false e (no q) f = rw (low q) f

-- who is a member is in the set
in_members : (w : List Weight) (i : ℕ) → i < 16 → contains (member_set w) i ≡ members (weight_in w) i
unfolding member_set
in_members w i h = set_in w 16 i (omega arith) ∙ rw (lt-ltb i 16 h) refl

set-count : (w : List Weight) → count_below (contains (member_set w)) 16 ≡ count_below (members (weight_in w)) 16
set-count w = count_same (contains (member_set w)) (members (weight_in w)) 16 (in_members w)

set_at : (w : List Weight) (k : ℕ) → member_at (contains (member_set w)) k ≡ member_at (members (weight_in w)) k
unfolding member_at
set_at w k = below-same (contains (member_set w)) (members (weight_in w)) 16 k (in_members w)

-- ---- leaders

pub leader-odd : (w : ℕ → ℕ) (r : ℕ) → (r % 2 ≡ 0 → ⊥) → leader_of w r ≡ None
unfolding leader_of
leader-odd w r h = rw (ne_eqb (r % 2) 0 h) refl

pub leader_early : (w : ℕ → ℕ) (r : ℕ) → r < 2 → leader_of w r ≡ None
unfolding leader_of
leader_early w r h = rw (lt-leb 2 r h, and-false (eqb (r % 2) 0)) refl

-- the leader of an even round from 2 on, by the members as a set
pub leader_set : (w : List Weight) (r : ℕ) → r % 2 ≡ 0 → 2 ≤ r → leader_of (weight_in w) r ≡ member_at (contains (member_set w)) (r / 2 % count_below (contains (member_set w)) 16)
unfolding leader_of
leader_set w r e h = rw (set_at w (r / 2 % count_below (contains (member_set w)) 16), set-count w, eq-eqb (r % 2) 0 e, le-leb 2 r h) refl

pub ruleset leader_cases = (at_none, leader-odd, leader_early, leader_set)

-- ---- a leader's number

pub leader_le : (w : ℕ → ℕ) (r : ℕ) → unwrap_or (leader_of w r) 16 ≤ 16
unfolding leader_of member_at
leader_le w r = go (eqb (r % 2) 0 && leb 2 r)
  where
    go : (b : Bool) → unwrap_or (cond b (member_below (members w) 16 (r / 2 % count_below (members w) 16)) None) 16 ≤ 16
    go true = below_le (members w) 16 16 (r / 2 % count_below (members w) 16) (omega arith)
    go false = omega arith
