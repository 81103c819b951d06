-- Chains as an engine keeps them: the rounds of the blocks, newest first, and for each place the number of its block, 0 for none.
use Rattle.std.specs.Prelude.{◌≡◌, false, ◌&&◌, if◌then◌else◌, List, [], ◌∷◌, ℕ, suc, ◌≤◌, ◌==◌, length, Option, None}
use Rattle.agreement.specs.Rules.{Block, Chain, Rules}
use Rattle.agreement.specs.View.{View}
use Rattle.agreement.specs.Dag.{is_held}
use Rattle.agreement.specs.Histories.{in_history}

module _ {P : Type 0} (d : ℕ → ℕ → Option P) where
  -- the block of number n
  abbrev pub marked : (ℕ → ℕ → ℕ) → ℕ → ℕ → Block P
  marked m n r = record { round = r; holds = λ a q. if m a q == n then d a q else None }

  -- the chain that rounds and marks stand for
  unfoldable pub marked_chain : (ℕ → ℕ → ℕ) → List ℕ → Chain P
  marked_chain m [] = []
  marked_chain m (r ∷ l) = marked m (suc (length l)) r ∷ marked_chain m l

-- the rounds of the blocks after a commit of the anchors, the first of them newest
unfoldable pub rounds_of : (R : Rules) → List ℕ → List R.P → List ℕ
rounds_of R rs [] = rs
rounds_of R rs (x ∷ l) = R.round x ∷ rounds_of R rs l

module _ {R : Rules} (s : View R) where
  open R use {P}

  -- the marks of one more block: those of the history of x that have none
  unfoldable pub mark_block : P → ℕ → (ℕ → ℕ → ℕ) → ℕ → ℕ → ℕ
  mark_block x n m a q = if m a q == 0 && in_history s x q a then n else m a q

  -- the marks after a commit of the anchors, the first of them newest
  unfoldable pub marks_of : (ℕ → ℕ → ℕ) → List ℕ → List P → ℕ → ℕ → ℕ
  marks_of m rs [] = m
  marks_of m rs (x ∷ l) = mark_block x (suc (length (rounds_of R rs l))) (marks_of m rs l)

  -- marks that fit a chain of n blocks: every mark names a block, and only held certificates have one
  pub record MarksFit (m : ℕ → ℕ → ℕ) (n : ℕ) : Type 0 where
    pub range : (a q : ℕ) → m a q ≤ n
    pub only_held : (a q : ℕ) → is_held (s.dag a q) ≡ false → m a q ≡ 0
