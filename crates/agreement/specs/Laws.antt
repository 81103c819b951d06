-- What the theory asks of the rules. Only theorems take these laws, no definition that a contract cites does.
use Rattle.std.specs.Prelude.{◌≡◌, true, ◌∷◌, ℕ, ◌+◌, ◌*◌, ◌≤◌, ◌<◌, Some}
use Rattle.agreement.specs.Weights.{total}
use Rattle.agreement.specs.Rules.{Block, Chain, last, Rules}

pub record Lawful (R : Rules) : Type 0 where
  -- three times the bound is below the total
  pub bound_law : (w : ℕ → ℕ) → 0 < total R.size w → 3 * R.bound w < total R.size w
  -- who knows a round knows those below it
  pub known_down : (c : Chain R.P) (r s : ℕ) → r ≤ s → R.known c s ≡ true → R.known c r ≡ true
  -- a block two or more rounds above the last one leaves known rounds known, and their committees as they are
  pub known_grow : (b : Block R.P) (c : Chain R.P) (r : ℕ) → last c + 2 ≤ b.round
      → R.known c r ≡ true → R.known (b ∷ c) r ≡ true
  pub committee_grow : (b : Block R.P)
      (c : Chain R.P) (r : ℕ) → last c + 2 ≤ b.round → R.known c r ≡ true → R.committee (b ∷ c)
      r ≡ R.committee c r
  -- rounds with a leader are two apart, and from 2 on
  pub apart : (v w : ℕ → ℕ) {r s a b : ℕ} → r < s → R.leader v r ≡ Some a
      → R.leader w s ≡ Some b → r + 2 ≤ s
  pub late : (w : ℕ → ℕ) {r a : ℕ} → R.leader w r ≡ Some a → 2 ≤ r
