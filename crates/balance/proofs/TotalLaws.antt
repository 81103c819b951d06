-- The total weight adds up.
use Rattle.std.proofs.Common.{◌≡◌, refl, sym, ◌∙◌, true, cond, List, [], ◌∷◌, ℕ, ◌+◌, length, ltb, ltb-true}
use Rattle.base.proofs.Bools.{both}
use Rattle.base.specs.Folds.{sum_to}
use Rattle.base.proofs.SumLaws.{sum_same, sum_add, sum_to_none, sum_only}
use Rattle.terms.specs.declared.Transaction.{Transaction}
use Rattle.terms.specs.declared.Transaction.TheVariants.{Bond, Unbond, Entry}
use Rattle.terms.specs.declared.sheet.Weight.{Weight}
use Rattle.terms.specs.Transactions.{amount_of, in_range, amount_in_range, bond_in_range}
use Rattle.terms.specs.Proposals.{all_in_range}
use Rattle.terms.specs.Ranges.{weight_in}
use Rattle.committee.specs.Totals.{total_in}
use Rattle.balance.specs.Ledger.{bond_of, unbonds, releases, bonded_to, released_from, bonded_all, released_by, released_all}
use Rattle.balance.proofs.LedgerLaws.{weights_after, member_adds}

bond-all : (x : Transaction) → in_range x ≡ true → sum_to (λ m. bond_of m x) 16 ≡ amount_of x
unfolding bond_in_range
bond-all (Bond i a) h = (sum_only (λ m. a) i.0 16).1 (ltb-true i.0 16 (both (ltb i.0 16) (amount_in_range a) h).0)
bond-all (Unbond i) h = sum_to_none 16
bond-all (Entry n) h = sum_to_none 16

released_by-all : (w : ℕ → ℕ) (e : List Transaction) (x : Transaction) → in_range x ≡ true → sum_to (λ m. cond (unbonds m x) (releases w m e) 0) 16 ≡ released_by w e x
released_by-all w e (Bond i a) h = sum_to_none 16
released_by-all w e (Unbond i) h = (sum_only (λ m. releases w m e) i.0 16).1 (ltb-true i.0 16 h)
released_by-all w e (Entry n) h = sum_to_none 16

bonded_sum : (e : List Transaction) → all_in_range e ≡ true → sum_to (λ m. bonded_to m e) 16 ≡ bonded_all e
unfolding bonded_to bonded_all all_in_range
bonded_sum [] h = sum_to_none 16
bonded_sum (x ∷ e) h =
    let p = both (in_range x) (all_in_range e) h in
    sum_add (λ m. bond_of m x) (λ m. bonded_to m e) 16 ∙ rw (bond-all x p.0, bonded_sum e p.1) refl

released_sum : (w : ℕ → ℕ) (e : List Transaction) → all_in_range e ≡ true → sum_to (λ m. released_from w m e) 16 ≡ released_all w e
unfolding released_from released_all all_in_range
released_sum w [] h = sum_to_none 16
released_sum w (x ∷ e) h =
    let p = both (in_range x) (all_in_range e) h in
    sum_add (λ m. cond (unbonds m x) (releases w m e) 0) (λ m. released_from w m e) 16 ∙ rw (released_by-all w e x p.0, released_sum w e p.1) refl

pub total_adds : (w : List Weight) (e : List Transaction) → length w ≡ 16 → all_in_range e ≡ true
    → total_in (weights_after w e) + released_all (weight_in w) e ≡ total_in w + bonded_all e
total_adds w e l h =
    rw (← released_sum (weight_in w) e h, ← bonded_sum e h)
    (sym (sum_add (weight_in (weights_after w e)) (λ m. released_from (weight_in w) m e) 16)
    ∙ sum_same (λ m. weight_in (weights_after w e) m + released_from (weight_in w) m e) (λ m. weight_in w m + bonded_to m e) 16 (λ m k. member_adds w e m l k)
    ∙ sum_add (weight_in w) (λ m. bonded_to m e) 16)
