-- Laws of the limits for the words of a transaction.
use Rattle.std.proofs.Common.{◌≡◌, refl, sym, ◌∙◌, Bool, true, false, cond, ◌&&◌, not, List, ℕ, zero, suc, ◌+◌, ◌%◌, ◌<◌, ◌≤◌, arith, get_or, eqb, leb, ltb, le-ltb, lt-ltb, le-leb, leb-true, leb-false, ne_eqb, eq-eqb, ltb-true, ltb-false}
use Rattle.base.proofs.Words.{and-false, and_comm, ℕ_discrete, lt-leb}
use Rattle.base.specs.Folds.{all_to}
use Rattle.base.specs.Sets.{contains}
use Rattle.base.proofs.TestLaws.{all-high, all_same}
use Rattle.terms.specs.Transactions.{bond_in_range}
use Rattle.scan.specs.Scan.{triple_fits}
use Rattle.scan.specs.Limits.{limit_table, limit_of, slot_fits}

-- an amount of none
none_le : (amount : ℕ) → eqb amount 0 ≡ leb amount 0
none_le amount = go (ℕ_discrete amount 0)
  where
    go : Dec (amount ≡ 0) → eqb amount 0 ≡ leb amount 0
    go (yes e) = rw (eq-eqb amount 0 e, le-leb amount 0 (omega arith)) refl
    go (no n) = rw (ne_eqb amount 0 n, lt-leb amount 0 (omega arith)) refl

module _ (number amount : ℕ) (small : number < 4294967296) (little : amount < 4294967296) where
  -- over a limit
  pub over-number : (there : Bool) (kind : ℕ) → get_or limit_table (limit_of there kind) 0 < number → slot_fits there kind number amount ≡ false
  unfolding limit_of triple_fits bond_in_range
  over-number false kind h = absurd (omega arith)
  over-number true zero h = rw (le-ltb number 16 (omega arith)) refl
  over-number true (suc zero) h = rw (le-ltb number 16 (omega arith)) (and-false (eqb amount 0))
  over-number true (suc (suc zero)) h = absurd (omega arith)
  over-number true (suc (suc (suc k))) h = absurd (omega (arith, rw (lt-ltb 2 (suc (suc (suc k))) (omega arith)) at h))

  pub under_amount : (there : Bool) (kind : ℕ) → amount < get_or limit_table (limit_of there kind + 5) 0 → slot_fits there kind number amount ≡ false
  unfolding limit_of triple_fits bond_in_range
  under_amount false kind h = absurd (omega arith)
  under_amount true zero h = rw (lt-leb 1 amount (omega arith)) (and-false (ltb number 16))
  under_amount true (suc zero) h = absurd (omega arith)
  under_amount true (suc (suc zero)) h = absurd (omega arith)
  under_amount true (suc (suc (suc k))) h = rw (ne_eqb (suc (suc (suc k))) 0 (λ e. omega arith), ne_eqb (suc (suc (suc k))) 1 (λ e. omega arith), ne_eqb (suc (suc (suc k))) 2 (λ e. omega arith)) (and-false (eqb amount 0))

  -- within the first two, the third decides
  pub by_most : (there : Bool) (kind : ℕ) → number ≤ get_or limit_table (limit_of there kind) 0 → get_or limit_table (limit_of there kind + 5) 0 ≤ amount
      → leb amount (get_or limit_table (limit_of there kind + 10) 0) ≡ slot_fits there kind number amount
  unfolding limit_of triple_fits bond_in_range
  by_most false kind h l = le-leb amount 4294967295 (omega arith)
  by_most true zero h l = rw (lt-ltb number 16 (omega arith), le-leb 1 amount (omega arith)) refl
  by_most true (suc zero) h l = rw (lt-ltb number 16 (omega arith), and_comm (eqb amount 0) true) (sym (none_le amount))
  by_most true (suc (suc zero)) h l = rw (and_comm (eqb amount 0) true) (sym (none_le amount))
  by_most true (suc (suc (suc k))) h l =
      let m = rw (lt-ltb 2 (suc (suc (suc k))) (omega arith)) at l in
      rw (lt-ltb 2 (suc (suc (suc k))) (omega arith), ne_eqb (suc (suc (suc k))) 0 (λ e. omega arith), ne_eqb amount 0 (λ e. omega (arith, m)), lt-leb amount 0 (omega (arith, m))) refl

-- the three together
pub by_limits : (number amount : ℕ) (there : Bool) (kind i : ℕ) (l : List ℕ) → number < 4294967296 → amount < 4294967296 → l ≡ limit_table → i ≡ limit_of there kind
    → (not (ltb (get_or l i 0) number) && leb (get_or l (i + 5) 0) amount && leb amount (get_or l (i + 10) 0)) ≡ slot_fits there kind number amount
by_limits number amount there kind i l small little e k = rw (e, k) (go (ltb (get_or limit_table j 0) number) (leb (get_or limit_table (j + 5) 0) amount) refl refl)
  where
    j : ℕ
    j = limit_of there kind

    go : (a b : Bool) → ltb (get_or limit_table j 0) number ≡ a → leb (get_or limit_table (j + 5) 0) amount ≡ b → (not a && b && leb amount (get_or limit_table (j + 10) 0)) ≡ slot_fits there kind number amount
    go true b p q = sym (over-number number amount (omega arith) (omega arith) there kind (ltb-true _ _ p))
    go false false p q = sym (under_amount number amount (omega arith) (omega arith) there kind (leb-false _ _ q))
    go false true p q = by_most number amount (omega arith) (omega arith) there kind (ltb-false _ _ p) (leb-true _ _ q)

-- the first n of four slots
pub all_there : (f : ℕ → Bool) (n : ℕ) → n ≤ 4 → all_to (λ k. cond (ltb k n) (f k) true) 4 ≡ all_to f n
all_there f n h =
    all-high (λ k. cond (ltb k n) (f k) true) 4 n h (λ k l. rw (le-ltb k n l) refl)
    ∙ all_same (λ k. cond (ltb k n) (f k) true) f n (λ k l. rw (lt-ltb k n l) refl)

-- a word of 16 bits is its low 16 bits
pub low_bits : (d m : ℕ) → d < 65536 → contains (d % 65536) m ≡ contains d m
low_bits d m h = let e : d % 65536 ≡ d = omega arith in rw e refl
