-- The journal of a chain is the transactions that its listing shows, newest first.
use Rattle.std.proofs.Common.{◌≡◌, refl, sym, ap, ◌∙◌, List, [], ◌∷◌, ◌++◌, append_assoc, append-nil, ℕ}
use Rattle.agreement.specs.Listing.{listing}
use Rattle.terms.specs.declared.Transaction.{Transaction}
use Rattle.terms.specs.Proposals.{Content}
use Rattle.committee.specs.Committees.{ordered}
use Rattle.balance.specs.Ledger.{entered, entered_of, journal, transactions_of_all, listed_transactions}
use Rattle.terms.specs.declared.sheet.Settings.{Settings}
use Rattle.agreement.specs.Rules.{Chain}

entered-then : (l m e : List Transaction) → entered (l ++ m) e ≡ entered m (entered l e)
unfolding entered
entered-then [] m e = refl
entered-then (x ∷ l) m e = entered-then l m (x ∷ e)

entered_all : (l : List Content) (e : List Transaction) → entered_of l e ≡ entered (transactions_of_all l) e
unfolding entered entered_of
entered_all [] e = refl
entered_all (p ∷ l) e = entered_all l (entered p.transactions e) ∙ sym (entered-then p.transactions (transactions_of_all l) e)

listed_then : (l m : List (ℕ × List Content)) → listed_transactions (l ++ m) ≡ listed_transactions l ++ listed_transactions m
unfolding listed_transactions
listed_then [] m = refl
listed_then (x ∷ l) m = ap (λ (z : List Transaction). transactions_of_all x.1 ++ z) (listed_then l m) ∙ sym (append_assoc (transactions_of_all x.1) (listed_transactions l) (listed_transactions m))

listed-one : (r : ℕ) (l : List Content) → listed_transactions ((r, l) ∷ []) ≡ transactions_of_all l
unfolding listed_transactions
listed-one r l = append-nil (transactions_of_all l)

-- the journal is what the listing shows, newest first
pub journal_listed : (S : Settings) (c : Chain Content) → journal S c ≡ entered (listed_transactions (listing (ordered S) c)) []
unfolding journal listing entered listed_transactions
journal_listed S [] = refl
journal_listed S (b ∷ c) =
    let l = listing (ordered S) c in
    let o = ordered S b c in
    entered_all o (journal S c)
    ∙ ap (entered (transactions_of_all o)) (journal_listed S c)
    ∙ sym (entered-then (listed_transactions l) (transactions_of_all o) [])
    ∙ ap (λ (z : List Transaction). entered (listed_transactions l ++ z) []) (sym (listed-one b.round o))
    ∙ ap (λ (z : List Transaction). entered z []) (sym (listed_then l ((b.round, o) ∷ [])))
