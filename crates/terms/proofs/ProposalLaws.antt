-- Laws of transactions and proposals.
use Rattle.std.proofs.Common.{◌≡◌, refl, sym, ap, ◌∙◌, subst, Bool, true, false, not, cond, ◌&&◌, ◌||◌, true≢false, List, [], ◌∷◌, ◌++◌, ◌≢◌, ℕ, zero, suc, ◌≤◌, ◌<◌, arith, length, eqb, ltb, leb, eq-eqb, ne_eqb, eqb-true, leb-true}
use Rattle.base.proofs.Words.{and-true, and_assoc, false≢true, not-false}
use Rattle.base.proofs.Bools.{both}
use Rattle.base.specs.Folds.{all_to, any_to, tab}
use Rattle.base.proofs.Ranges.{tab_next, all_next}
use Rattle.base.proofs.FoldLaws.{length-tab, get_d_tab}
use Rattle.base.proofs.TestLaws.{any_true}
use Rattle.base.specs.Sets.{contains, is_empty}
use Rattle.base.proofs.UnionLaws.{in_none, empty_in}
use Rattle.terms.specs.declared.Transaction.{Transaction}
use Rattle.terms.specs.declared.Transaction.TheVariants.{Bond, Unbond, Entry}
use Rattle.terms.specs.Transactions.{kind_of, number_of, amount_of, read_transaction, no_transaction, same_transaction, bond_in_range, in_range}
use Rattle.terms.specs.declared.Body.{Body}
use Rattle.terms.specs.Proposals.{Content, slot_of, transactions_of, same_transactions, same_proposal, all_in_range, bad_transactions, bad_previous_set}

-- the numbers of a transaction tell it
pub read_back : (x : Transaction) → read_transaction (kind_of x) (number_of x) (amount_of x) ≡ x
unfolding read_transaction
read_back (Bond m a) = refl
read_back (Unbond m) = refl
read_back (Entry n) = refl

-- the kinds 0 and 1, and any other
pub read-bond : (number amount : ℕ) → read_transaction 0 number amount ≡ Bond (record { 0 = number }) amount
unfolding read_transaction
read-bond number amount = refl

pub read-unbond : (number amount : ℕ) → read_transaction 1 number amount ≡ Unbond (record { 0 = number })
unfolding read_transaction
read-unbond number amount = refl

pub read-entry : (k number amount : ℕ) → read_transaction (suc (suc k)) number amount ≡ Entry number
unfolding read_transaction
read-entry k number amount = rw (ne_eqb (suc (suc k)) 0 (λ e. omega arith), ne_eqb (suc (suc k)) 1 (λ e. omega arith)) refl

-- the amount of three numbers' transaction is not above the third
pub read_amount : (kind number amount : ℕ) → amount_of (read_transaction kind number amount) ≤ amount
unfolding read_transaction
read_amount kind number amount = go (eqb kind 0) (eqb kind 1)
  where
    go : (a b : Bool) → amount_of (cond a (Bond (record { 0 = number }) amount) (cond b (Unbond (record { 0 = number })) (Entry number))) ≤ amount
    go true b = omega arith
    go false true = omega arith
    go false false = omega arith

-- no amount in range is above 1,000
pub range_amount : (x : Transaction) → in_range x ≡ true → amount_of x ≤ 1000
unfolding bond_in_range
range_amount (Bond m a) e = leb-true a 1000 (both (leb 1 a) (leb a 1000) (both (ltb m.0 16) (leb 1 a && leb a 1000) e).1).1
range_amount (Unbond m) e = omega arith
range_amount (Entry n) e = omega arith

-- equal numbers, equal transactions
pub same-transaction : (x y : Transaction) → same_transaction x y ≡ true → x ≡ y
unfolding same_transaction
same-transaction x y e =
    let p = both (eqb (kind_of x) (kind_of y)) (eqb (number_of x) (number_of y) && eqb (amount_of x) (amount_of y)) e in
    let q = both (eqb (number_of x) (number_of y)) (eqb (amount_of x) (amount_of y)) p.1 in
    sym (read_back x)
    ∙ rw (eqb-true (kind_of x) (kind_of y) p.0, eqb-true (number_of x) (number_of y) q.0, eqb-true (amount_of x) (amount_of y) q.1) (read_back y)

pub transaction_self : (x : Transaction) → same_transaction x x ≡ true
unfolding same_transaction
transaction_self x = rw (eq-eqb (kind_of x) (kind_of x) refl, eq-eqb (number_of x) (number_of x) refl, eq-eqb (amount_of x) (amount_of x) refl) refl

same_lists : (l m : List Transaction) → same_transactions l m ≡ true → l ≡ m
unfolding same_transactions
same_lists [] [] e = refl
same_lists [] (y ∷ m) e = absurd (false≢true e)
same_lists (x ∷ l) [] e = absurd (false≢true e)
same_lists (x ∷ l) (y ∷ m) e =
    let p = both (same_transaction x y) (same_transactions l m) e in
    let h = same-transaction x y p.0 in
    let t = same_lists l m p.1 in
    cc

list_self : (l : List Transaction) → same_transactions l l ≡ true
unfolding same_transactions
list_self [] = refl
list_self (x ∷ l) = rw (transaction_self x, list_self l) refl

-- the same certificates are those with equal proposals
pub same-content : (p q : Content) → same_proposal p q ≡ true → p ≡ q
unfolding same_proposal
same-content p q e =
    let a = both (eqb p.author q.author) (eqb p.round q.round && (eqb p.previous q.previous && same_transactions p.transactions q.transactions)) e in
    let b = both (eqb p.round q.round) (eqb p.previous q.previous && same_transactions p.transactions q.transactions) a.1 in
    let c = both (eqb p.previous q.previous) (same_transactions p.transactions q.transactions) b.1 in
    parts p.author p.round p.previous p.transactions
    (eqb-true p.author q.author a.0)
    (eqb-true p.round q.round b.0)
    (eqb-true p.previous q.previous c.0)
    (same_lists p.transactions q.transactions c.1)
  where
    parts : (a r v : ℕ) (l : List Transaction) → a ≡ q.author → r ≡ q.round → v ≡ q.previous → l ≡ q.transactions
        → ◌≡◌ {A = Content} (record { author = a; round = r; previous = v; transactions = l }) q
    parts a r v l x y z w = rw (x, y, z, w) refl

-- of one author and round, previous sets and transactions decide
pub same-placed : (p q : Content) → p.author ≡ q.author → p.round ≡ q.round → same_proposal p q ≡ (eqb p.previous q.previous && same_transactions p.transactions q.transactions)
unfolding same_proposal
same-placed p q a r = rw (eq-eqb p.author q.author a, eq-eqb p.round q.round r) refl

pub content_self : (p : Content) → same_proposal p p ≡ true
unfolding same_proposal
content_self p = rw (eq-eqb p.author p.author refl, eq-eqb p.round p.round refl, eq-eqb p.previous p.previous refl, list_self p.transactions) refl

-- ---- lists by their places

same_snoc : (l m : List Transaction) (x y : Transaction) → length l ≡ length m → same_transactions (l ++ (x ∷ [])) (m ++ (y ∷ [])) ≡ (same_transactions l m && same_transaction x y)
unfolding same_transactions
same_snoc [] [] x y e = and-true (same_transaction x y)
same_snoc [] (z ∷ m) x y e = absurd (omega arith)
same_snoc (z ∷ l) [] x y e = absurd (omega arith)
same_snoc (z ∷ l) (w ∷ m) x y e =
    rw (same_snoc l m x y (omega arith)) (sym (and_assoc (same_transaction z w) (same_transactions l m) (same_transaction x y)))

-- two lists of one length, place by place
pub same_tabs : (f g : ℕ → Transaction) (n : ℕ) → same_transactions (tab f n) (tab g n) ≡ all_to (λ k. same_transaction (f k) (g k)) n
unfolding tab all_to
same_tabs f g zero = empty
  where
    empty : same_transactions [] [] ≡ true
    empty = list_self []
same_tabs f g (suc n) = rw (tab_next f n, tab_next g n, all_next (λ k. same_transaction (f k) (g k)) n) (same_snoc (tab f n) (tab g n) (f n) (g n) (length-tab f n ∙ sym (length-tab g n)) ∙ rw (same_tabs f g n) refl)

other_lengths : (l m : List Transaction) → eqb (length l) (length m) ≡ false → same_transactions l m ≡ false
other_lengths l m e = go (same_transactions l m) refl
  where
    go : (b : Bool) → same_transactions l m ≡ b → b ≡ false
    go false h = refl
    go true h = sym (eq-eqb (length l) (length m) (ap length (same_lists l m h))) ∙ e

-- lists of other lengths are not the same
pub other_tabs : (f g : ℕ → Transaction) (m n : ℕ) → eqb m n ≡ false → same_transactions (tab f m) (tab g n) ≡ false
other_tabs f g m n e = other_lengths (tab f m) (tab g n) (rw (length-tab f m, length-tab g n) e)

pub transactions_tab : (b : Body) → transactions_of b ≡ tab (slot_of b) b.count
unfolding transactions_of
transactions_tab b = refl

pub length-transactions : (b : Body) → length (transactions_of b) ≡ b.count
length-transactions b = rw (transactions_tab b) (length-tab (slot_of b) b.count)

-- the slots of a body that are filled place by place
pub slot-tab : (v n : ℕ) (f : ℕ → Transaction) (k : ℕ) → k < 4 → slot_of (record { previous = v; count = n; slots = tab f 4 }) k ≡ f k
unfolding slot_of
slot-tab v n f k h = get_d_tab f 4 k no_transaction h

range-append : (l m : List Transaction) → all_in_range (l ++ m) ≡ (all_in_range l && all_in_range m)
unfolding all_in_range
range-append [] m = refl
range-append (x ∷ l) m = rw (range-append l m) (sym (and_assoc (in_range x) (all_in_range l) (all_in_range m)))

pub range-tab : (f : ℕ → Transaction) (n : ℕ) → all_in_range (tab f n) ≡ all_to (λ k. in_range (f k)) n
unfolding tab all_to all_in_range
range-tab f zero = refl
range-tab f (suc n) = ap all_in_range (tab_next f n) ∙ range-append (tab f n) (f n ∷ []) ∙ rw (range-tab f n, and-true (in_range (f n))) (sym (all_next (λ k. in_range (f k)) n))

pub bad_transactions_tab : (a : ℕ) (f : ℕ → Transaction) (n : ℕ) → bad_transactions a (tab f n) ≡ (ltb a n || not (all_to (λ k. in_range (f k)) n))
unfolding bad_transactions
bad_transactions_tab a f n = rw (length-tab f n, range-tab f n) refl

-- ---- check 7

-- a set that passes it in round 1 names nobody
pub first-names : (set : ℕ) → bad_previous_set 1 set ≡ false → (i : ℕ) → contains set i ≡ true → ⊥
unfolding bad_previous_set is_empty
first-names set h i n = true≢false (sym n ∙ subst (λ (z : ℕ). contains z i ≡ false) (sym (eqb-true set 0 (not-false (eqb set 0) h))) (in_none i))

-- a 16-bit set that passes it above round 1 names somebody
pub later-names : (r set : ℕ) → r ≢ 1 → set < 65536 → bad_previous_set r set ≡ false → (i : ℕ) × (i < 16) × (contains set i ≡ true)
unfolding bad_previous_set
later-names r set n small h = any_true (contains set) 16 (not-false (any_to (contains set) 16) (sym (empty_in set small) ∙ go (eqb r 1) refl h))
  where
    go : (b : Bool) → eqb r 1 ≡ b → cond b (not (is_empty set)) (is_empty set) ≡ false → is_empty set ≡ false
    go true e k = absurd (n (eqb-true r 1 e))
    go false e k = k
