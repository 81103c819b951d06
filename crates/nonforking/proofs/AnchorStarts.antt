-- The order inside a block starts with the author of its anchor: so in every state of a run, for each block of each correct member.
use Rattle.std.proofs.Common.{◌≡◌, true, List, ◌∷◌, ◌++◌, ℕ}
use Rattle.agreement.specs.Rules.{Block, Chain}
use Rattle.terms.specs.Proposals.{Content}
use Rattle.rules.specs.AnchorStarts.{StartsWithAnchor}
use Rattle.rules.proofs.AnchorStartLaws.{run-starts}
use Rattle.nonforking.specs.Statement.{chain, Members, Entry, engine_after, Run, engine_behaviour}
use Rattle.nonforking.proofs.StartLaws.{group}
use Rattle.nonforking.proofs.RunLaws.{run-ruled}

module _ (X : Members engine_behaviour) where
  open X use {correct, settings}

  -- b is any block of member i's chain, and c the chain below it
  pub starts_with_anchor : (l : List Entry) → Run X l → (i : ℕ) → correct i ≡ true
      → (newer : Chain Content) (b : Block Content) (c : Chain Content) → chain (engine_after X l i) ≡ newer ++ (b ∷ c)
      → StartsWithAnchor settings (chain (engine_after X l i)) b c
  starts_with_anchor l r = run-starts (group X) l (run-ruled X l r)
