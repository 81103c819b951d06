-- Each member's weight adds up.
use Rattle.std.proofs.Common.{◌≡◌, refl, ap, ◌∙◌, Bool, true, false, cond, List, [], ◌∷◌, ℕ, ◌+◌, ◌<◌, arith, length, eqb}
use Rattle.base.proofs.Words.{false≢true}
use Rattle.agreement.specs.Rules.{Chain}
use Rattle.terms.specs.declared.Transaction.{Transaction}
use Rattle.terms.specs.declared.Transaction.TheVariants.{Bond, Unbond, Entry}
use Rattle.terms.specs.Proposals.{Content}
use Rattle.terms.specs.Ranges.{weight_in}
use Rattle.terms.specs.declared.sheet.Settings.{Settings}
use Rattle.terms.specs.declared.sheet.Weight.{Weight}
use Rattle.committee.specs.Changes.{change, changes, changes_of}
use Rattle.committee.specs.Committees.{bonded_from, ordered}
use Rattle.committee.proofs.ChangeLaws.{length-change, bond-at, unbond-at}
use Rattle.committee.proofs.BondedLaws.{step_counts, bonded-step}
use Rattle.balance.specs.Ledger.{entered, entered_of, journal, bond_of, unbonds, releases, bonded_to, released_from}

-- ---- the account of a member: what it would release now, and what it released, make what it had and what was bonded

unbond_bonds_none : (m : ℕ) (x : Transaction) → unbonds m x ≡ true → bond_of m x ≡ 0
unbond_bonds_none m (Bond i a) e = absurd (false≢true e)
unbond_bonds_none m (Unbond i) e = refl
unbond_bonds_none m (Entry n) e = refl

pub account : (w : ℕ → ℕ) (m : ℕ) (e : List Transaction) → releases w m e + released_from w m e ≡ w m + bonded_to m e
unfolding releases released_from bonded_to
account w m [] = refl
account w m (x ∷ e) = go (unbonds m x) refl (account w m e)
  where
    go : (b : Bool) → unbonds m x ≡ b → releases w m e + released_from w m e ≡ w m + bonded_to m e
        → cond b 0 (bond_of m x + releases w m e) + (cond b (releases w m e) 0 + released_from w m e) ≡ w m + (bond_of m x + bonded_to m e)
    go true q h = let z = unbond_bonds_none m x q in omega arith
    go false q h = omega arith

-- ---- the weights after the transactions

unfoldable pub weights_after : List Weight → List Transaction → List Weight
weights_after w [] = w
weights_after w (x ∷ e) = change x (weights_after w e)

length-after : (w : List Weight) (e : List Transaction) → length (weights_after w e) ≡ length w
unfolding weights_after
length-after w [] = refl
length-after w (x ∷ e) = length-change x (weights_after w e) ∙ length-after w e

-- what a transaction does to the weight of member m
pub change-at : (x : Transaction) (w : List Weight) (m : ℕ) → length w ≡ 16 → m < 16 → weight_in (change x w) m ≡ cond (unbonds m x) 0 (bond_of m x + weight_in w m)
change-at (Bond i a) w m l h = bond-at i.0 a w m l h
change-at (Unbond i) w m l h = unbond-at i.0 w m l h ∙ ap (cond (eqb i.0 m) 0) (omega arith)
change-at (Entry n) w m l h = omega arith

-- a member's weight is what an unbond would release
pub weight_after : (w : List Weight) (e : List Transaction) (m : ℕ) → length w ≡ 16 → m < 16 → weight_in (weights_after w e) m ≡ releases (weight_in w) m e
unfolding weights_after releases
weight_after w [] m l h = refl
weight_after w (x ∷ e) m l h = change-at x (weights_after w e) m (length-after w e ∙ l) h ∙ rw (weight_after w e m l h) refl

pub member_adds : (w : List Weight) (e : List Transaction) (m : ℕ) → length w ≡ 16 → m < 16
    → weight_in (weights_after w e) m + released_from (weight_in w) m e ≡ weight_in w m + bonded_to m e
member_adds w e m l h = rw (weight_after w e m l h) (account (weight_in w) m e)

-- ---- the bonded committee is the weights after the journal

changes-entered : (l e : List Transaction) (w : List Weight) → changes l (weights_after w e) ≡ weights_after w (entered l e)
unfolding changes entered weights_after
changes-entered [] e w = refl
changes-entered (x ∷ l) e w = changes-entered l (x ∷ e) w

changes-of-entered : (l : List Content) (e : List Transaction) (w : List Weight) → changes_of l (weights_after w e) ≡ weights_after w (entered_of l e)
unfolding changes_of entered_of
changes-of-entered [] e w = refl
changes-of-entered (p ∷ l) e w = rw (changes-entered p.transactions e w) (changes-of-entered l (entered p.transactions e) w)

-- all blocks are of rounds below s
abbrev pub AllBelow : Chain Content → ℕ → Type 0
AllBelow [] s = Unit {0}
AllBelow (b ∷ c) s = (b.round < s) × AllBelow c s

bonded-start : (S : Settings) (s : ℕ) → bonded_from S [] s ≡ S.weights
unfolding bonded_from
bonded-start S s = refl

pub bonded-journal : (S : Settings) (s : ℕ) (c : Chain Content) → AllBelow c s → bonded_from S c s ≡ weights_after S.weights (journal S c)
unfolding journal weights_after ordered
bonded-journal S s [] h = bonded-start S s
bonded-journal S s (b ∷ c) h = bonded-step S s b c ∙ step_counts S s b c (bonded_from S c s) h.0 ∙ rw (bonded-journal S s c h.1) (changes-of-entered (ordered S b c) (journal S c) S.weights)
