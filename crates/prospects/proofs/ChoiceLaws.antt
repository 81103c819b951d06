-- Laws of a set that is filled member by member with those who pass a test.
use Rattle.std.proofs.Common.{◌≡◌, refl, ◌∙◌, Bool, true, false, not, cond, ◌&&◌, List, ℕ, zero, suc, ◌+◌, ◌<◌, ◌≤◌, arith, add-one, eqb, ltb, lt-ltb, le-ltb, eq-eqb, ne_eqb}
use Rattle.base.proofs.Words.{and-false, dec_lt, ℕ_discrete}
use Rattle.base.specs.Sets.{contains, insert}
use Rattle.base.specs.Folds.{fold_to}
use Rattle.base.proofs.Ranges.{fold_none, fold_next}
use Rattle.base.proofs.SetLaws.{insert_lt, in_insert, in_member}
use Rattle.base.proofs.UnionLaws.{in_none}
use Rattle.store.specs.Table.{mark_at}
use Rattle.prospects.specs.Reaching.{NewOf}

-- the set u has those of the first i members who pass the test
record Chosen (f : ℕ → Bool) (i u : ℕ) : Type 0 where
  small : u < 65536
  each : (a : ℕ) → contains u a ≡ (ltb a i && f a)

-- a member who is not the last is among the first where they were before
ltb_more : (a i : ℕ) → (i ≡ a → ⊥) → ltb a (i + 1) ≡ ltb a i
ltb_more a i n = by (dec_lt a i)
  where
    by : Dec (a < i) → ltb a (i + 1) ≡ ltb a i
    by (yes h) = rw (lt-ltb a i h, lt-ltb a (i + 1) (omega arith)) refl
    by (no h) = let l : i + 1 ≤ a = omega (arith, n) in rw (le-ltb a i (omega arith), le-ltb a (i + 1) l) refl

module _ (f : ℕ → Bool) where
  -- one member more
  chosen_more : (i u : ℕ) → i < 16 → Chosen f i u → Chosen f (i + 1) (cond (f i) (insert u i) u)
  chosen_more i u h k = record { small = small (f i); each = λ a. each a (f i) refl (ℕ_discrete i a) }
    where
      small : (b : Bool) → cond b (insert u i) u < 65536
      small true = insert_lt 16 i u h k.small
      small false = k.small

      each : (a : ℕ) (b : Bool) → f i ≡ b → Dec (i ≡ a) → contains (cond b (insert u i) u) a ≡ (ltb a (i + 1) && f a)
      each a true e (yes y) = in_insert u i a h ∙ rw (eq-eqb i a y, lt-ltb a (i + 1) (omega arith), ← y, e) refl
      each a true e (no n) = in_insert u i a h ∙ rw (ne_eqb i a n, ltb_more a i n) (k.each a)
      each a false e (yes y) = k.each a ∙ rw (← y, e, and-false (ltb i i), and-false (ltb i (i + 1))) refl
      each a false e (no n) = k.each a ∙ rw (ltb_more a i n) refl

  -- those of the first n who pass
  chosen : (n : ℕ) → n ≤ 16 → Chosen f n (fold_to (λ a u. cond (f a) (insert u a) u) n 0)
  chosen zero h = rw (fold_none (λ a u. cond (f a) (insert u a) u) 0) (record { small = omega arith; each = λ a. in_none a ∙ rw (le-ltb a 0 (omega arith)) refl })
  chosen (suc n) h = rw (fold_next (λ a u. cond (f a) (insert u a) u) n 0, ← add-one n) (chosen_more n (fold_to (λ a u. cond (f a) (insert u a) u) n 0) h (chosen n (omega arith)))

-- what is new among the members of a set
pub new_chosen : (t : List ℕ) (here old r u : ℕ) → u ≡ fold_to (λ a u. cond (contains here a && (not (contains old a) && eqb (mark_at t a r) 0)) (insert u a) u) 16 0 → NewOf t here old r u
new_chosen t here old r u e = rw e (record { small = k.small; each = λ a. k.each a ∙ go a (contains here a) refl })
  where
    f : ℕ → Bool
    f a = contains here a && (not (contains old a) && eqb (mark_at t a r) 0)

    k : Chosen f 16 (fold_to (λ a u. cond (f a) (insert u a) u) 16 0)
    k = chosen f 16 (omega arith)

    go : (a : ℕ) (b : Bool) → contains here a ≡ b → (ltb a 16 && (b && (not (contains old a) && eqb (mark_at t a r) 0))) ≡ (b && (not (contains old a) && eqb (mark_at t a r) 0))
    go a true e = rw (lt-ltb a 16 (in_member here a e)) refl
    go a false e = and-false (ltb a 16)
