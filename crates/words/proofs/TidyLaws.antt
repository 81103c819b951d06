-- What is read is tidy: it has no transactions beyond the count.
use Rattle.std.proofs.Common.{◌≡◌, refl, ap, ◌∙◌, Bool, true, false, cond, List, [], ◌∷◌, ℕ, suc, ◌+◌, ◌*◌, ◌<◌, arith, length, lt-ltb, eqb, ltb}
use Rattle.std.specs.Prelude.{Some, None, option_map}
use Rattle.base.specs.Folds.{tab}
use Rattle.base.proofs.FoldLaws.{get_d_tab, tab-same}
use Rattle.terms.specs.declared.Transaction.{Transaction}
use Rattle.terms.specs.Transactions.{read_transaction, no_transaction}
use Rattle.terms.specs.Proposals.{slot_of}
use Rattle.terms.specs.Bodies.{body_of}
use Rattle.terms.proofs.ProposalLaws.{slot-tab}
use Rattle.terms.specs.declared.sheet.Weight.{Weight}
use Rattle.terms.specs.Ranges.{weight, weight_in}
use Rattle.terms.specs.declared.sheet.Sheet.{Sheet}
use Rattle.terms.specs.Sheets.{weight_at, filled}
use Rattle.terms.proofs.SheetLaws.{filled-weights}
use Rattle.state.specs.declared.State.{State}
use Rattle.words.specs.Lengths.{transaction_length}
use Rattle.words.specs.Words.{word}
use Rattle.words.specs.Bodies.{slot_in, body_in, used_of}
use Rattle.words.specs.States.{settings_in, own_proposal_in, state_in}
use Rattle.words.specs.TidyStates.{tidy_body, sixteen_weights, tidy}

sixteen-tab : (f : ℕ → Weight) → sixteen_weights (tab f 16) ≡ tab f 16
unfolding sixteen_weights
sixteen-tab f = tab-same (λ i. weight (weight_in (tab f 16) i)) f 16 (λ i h. get_d_tab f 16 i (weight 0) h)

pub tidy-by : (s : State) → sixteen_weights s.settings.weights ≡ s.settings.weights → option_map tidy_body s.proposal ≡ s.proposal → tidy s ≡ s
unfolding tidy
tidy-by s e h = rw (e, h) refl

slot-of-body : (w : List ℕ) (a k : ℕ) → k < 4 → slot_of (body_in w a) k ≡ slot_in w a k
unfolding body_in
slot-of-body w a k h = slot-tab (word w a) (word w (a + 1)) (slot_in w a) k h

slot-tidy : (w : List ℕ) (a k : ℕ) → k < 4 → used_of (body_in w a) k ≡ slot_in w a k
unfolding used_of body_in slot_in
slot-tidy w a k h =
    ap (λ (x : Transaction). cond (ltb k (word w (a + 1))) x no_transaction) (slot-of-body w a k h)
    ∙ go (ltb k (word w (a + 1))) (read_transaction (word w (a + 2 + k * transaction_length)) (word w (a + 2 + k * transaction_length + 1)) (word w (a + 2 + k * transaction_length + 2)))
  where
    go : (t : Bool) (x : Transaction) → cond t (cond t x no_transaction) no_transaction ≡ cond t x no_transaction
    go true x = refl
    go false x = refl

pub body-tidy : (w : List ℕ) (a : ℕ) → tidy_body (body_in w a) ≡ body_in w a
unfolding tidy_body body_in
body-tidy w a =
    ap (λ (z : List Transaction). record { previous = word w a; count = word w (a + 1); slots = z })
    (tab-same (used_of (body_in w a)) (slot_in w a) 4 (slot-tidy w a))

-- so is a body that is made of its transactions
pub of-tidy : (v : ℕ) (l : List Transaction) → tidy_body (body_of v l) ≡ body_of v l
unfolding tidy_body used_of slot_of body_of tab
of-tidy v [] = refl
of-tidy v (x ∷ []) = refl
of-tidy v (x ∷ y ∷ []) = refl
of-tidy v (x ∷ y ∷ z ∷ []) = refl
of-tidy v (x ∷ y ∷ z ∷ w ∷ l) = let n = suc (suc (suc (suc (length l)))) in rw (lt-ltb 0 n (omega arith), lt-ltb 1 n (omega arith), lt-ltb 2 n (omega arith), lt-ltb 3 n (omega arith)) refl

pub own-proposal-tidy : (w : List ℕ) → option_map tidy_body (own_proposal_in w) ≡ own_proposal_in w
unfolding own_proposal_in
own-proposal-tidy w = go (eqb (word w 21) 0)
  where
    go : (t : Bool) → option_map tidy_body (cond t None (Some (body_in w 23))) ≡ cond t None (Some (body_in w 23))
    go true = refl
    go false = ap Some (body-tidy w 23)

pub weights-tidy : (w : List ℕ) → sixteen_weights (state_in w).settings.weights ≡ (state_in w).settings.weights
unfolding state_in settings_in
weights-tidy w = sixteen-tab (λ i. weight (word w (4 + i)))

pub filled-tidy : (a : Sheet) → sixteen_weights (filled a).weights ≡ (filled a).weights
filled-tidy a = rw (filled-weights a) (sixteen-tab (λ i. weight (weight_at a.weights i)))
