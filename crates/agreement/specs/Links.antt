-- How the blocks of a chain hang together, as one member sees it.
use Rattle.std.specs.Prelude.{◌≡◌, [], ◌∷◌, ◌⊎◌, ◌↔◌, ℕ, ◌+◌, ◌≤◌, ◌<◌, Some}
use Rattle.agreement.specs.Rules.{Block, Chain, last, Rules}
use Rattle.agreement.specs.View.{View}
use Rattle.agreement.specs.Dag.{Reach}
use Rattle.agreement.specs.Anchors.{Anchor, Elected}

-- p is in a block of the chain
abbrev pub InChain : (R : Rules) → Chain R.P → R.P → Type 0
InChain R [] p = ⊥
InChain R (b ∷ c) p = (b.holds (R.author p) (R.round p) ≡ Some p) ⊎ InChain R c p

module _ {R : Rules} (s : View R) where
  open R use {P, author, round}

  -- p, whose place is (a, r), is in the history of x and in no block of c
  pub record Uncommitted (c : Chain P) (x : P) (a r : ℕ) (p : P) : Type 0 where
    pub by : author p ≡ a
    pub at : round p ≡ r
    pub reached : Reach s x p
    pub unused : ¬ InChain R c p

  -- the block b of the anchor x may stand on the chain c: no anchor in between is in the history of x, and b holds what of that history c has not
  pub record Link (b : Block P) (c : Chain P) (x : P) : Type 0 where
    pub sees : Anchor s b.round x
    pub spaced : last c + 2 ≤ b.round
    pub gap : (r : ℕ) (q : P) → last c < r → r < b.round → Anchor s r q → ¬ Reach s x q
    pub content : (a r : ℕ) (p : P) → (b.holds a r ≡ Some p) ↔ Uncommitted c x a r p

  -- the anchor of the newest block of c, if any, is in the history of x
  abbrev pub ReachesLast : Chain P → P → Type 0
  ReachesLast [] x = Unit {0}
  ReachesLast (b ∷ c) x = (q : P) × Anchor s b.round q × Reach s x q

  -- every block may stand on those below it, and its anchor reaches the anchor of the one below
  abbrev pub Linked : Chain P → Type 0
  Linked [] = Unit {0}
  Linked (b ∷ c) = (x : P) × Link b c x × ReachesLast c x × Linked c

  -- the anchor of the newest block, if any, has the votes
  abbrev pub LastElected : Chain P → Type 0
  LastElected [] = Unit {0}
  LastElected (b ∷ c) = (q : P) × Anchor s b.round q × Elected s q
