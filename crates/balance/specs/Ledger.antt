-- The ledger of a chain: what its transactions, in the chain's order, bond and release (docs/RULES.md, "Weights that add up").
use Rattle.std.specs.Prelude.{Bool, false, if◌then◌else◌, List, [], ◌∷◌, ◌++◌, ℕ, ◌+◌, ◌==◌}
use Rattle.agreement.specs.Rules.{Chain}
use Rattle.terms.specs.declared.Transaction.{Transaction}
use Rattle.terms.specs.declared.Transaction.TheVariants.{Bond, Unbond, Entry}
use Rattle.terms.specs.Transactions.{amount_of}
use Rattle.terms.specs.Proposals.{Content}
use Rattle.terms.specs.declared.sheet.Settings.{Settings}
use Rattle.committee.specs.Committees.{ordered}

-- ---- the journal of a chain: its transactions, newest first

-- the transactions l in their order, after the earlier ones e
unfoldable pub entered : List Transaction → List Transaction → List Transaction
entered [] e = e
entered (x ∷ l) e = entered l (x ∷ e)

-- those of certificates in their order
unfoldable pub entered_of : List Content → List Transaction → List Transaction
entered_of [] e = e
entered_of (p ∷ l) e = entered_of l (entered p.transactions e)

-- all of a chain: block after block, in each the certificates in the block's order
unfoldable pub journal : Settings → Chain Content → List Transaction
journal S [] = []
journal S (b ∷ c) = entered_of (ordered S b c) (journal S c)

-- ---- the same from a listing

-- the transactions of certificates, in their order
abbrev pub transactions_of_all : List Content → List Transaction
transactions_of_all [] = []
transactions_of_all (p ∷ l) = p.transactions ++ transactions_of_all l

-- those of a chain as it is listed, oldest first
unfoldable pub listed_transactions : List (ℕ × List Content) → List Transaction
listed_transactions [] = []
listed_transactions (x ∷ l) = transactions_of_all x.1 ++ listed_transactions l

-- ---- one member

-- what a transaction bonds to member m
abbrev pub bond_of : ℕ → Transaction → ℕ
bond_of m (Bond i a) = if i.0 == m then a else 0
bond_of m (Unbond i) = 0
bond_of m (Entry n) = 0

-- it is an unbond of m
abbrev pub unbonds : ℕ → Transaction → Bool
unbonds m (Bond i a) = false
unbonds m (Unbond i) = i.0 == m
unbonds m (Entry n) = false

-- what an unbond of m releases after the transactions e: the member's bonds since its previous unbond, plus its starting weight if there was no previous one
unfoldable pub releases : (ℕ → ℕ) → ℕ → List Transaction → ℕ
releases w m [] = w m
releases w m (x ∷ e) = if unbonds m x then 0 else bond_of m x + releases w m e

-- all that is bonded to m
unfoldable pub bonded_to : ℕ → List Transaction → ℕ
bonded_to m [] = 0
bonded_to m (x ∷ e) = bond_of m x + bonded_to m e

-- all that the unbonds of m release
unfoldable pub released_from : (ℕ → ℕ) → ℕ → List Transaction → ℕ
released_from w m [] = 0
released_from w m (x ∷ e) = (if unbonds m x then releases w m e else 0) + released_from w m e

-- ---- all members

-- all bonded amounts
unfoldable pub bonded_all : List Transaction → ℕ
bonded_all [] = 0
bonded_all (x ∷ e) = amount_of x + bonded_all e

-- what a transaction releases after e
abbrev pub released_by : (ℕ → ℕ) → List Transaction → Transaction → ℕ
released_by w e (Bond i a) = 0
released_by w e (Unbond i) = releases w i.0 e
released_by w e (Entry n) = 0

-- all weight released
unfoldable pub released_all : (ℕ → ℕ) → List Transaction → ℕ
released_all w [] = 0
released_all w (x ∷ e) = released_by w e x + released_all w e
