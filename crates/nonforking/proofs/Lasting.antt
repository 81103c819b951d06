-- What lasts in a run: a block once made stays under every later call, and every state is well formed.
use Rattle.std.proofs.Common.{◌≡◌, true, List, [], ◌∷◌, ◌++◌, ℕ, Some}
use Rattle.agreement.specs.Rules.{Block}
use Rattle.agreement.proofs.ListingLaws.{lists-prefix}
use Rattle.agreement.specs.Prefixes.{block_numbered}
use Rattle.terms.specs.Proposals.{Content}
use Rattle.committee.specs.Committees.{ordered}
use Rattle.rules.proofs.RunAgreement as agreement
use Rattle.state.specs.WellFormed.{well_formed}
use Rattle.nonforking.specs.Statement.{chain, Prefix, Members, Entry, engine_after, Run, engine_behaviour}
use Rattle.nonforking.proofs.StartLaws.{group}
use Rattle.nonforking.proofs.RunLaws.{prefix-own, run-good, run-ruled}

module _ (X : Members engine_behaviour) where
  open X use {correct, settings}

  -- what a run was before its newest entries
  earlier : (m l : List Entry) → Run X (m ++ l) → Run X l
  earlier [] l r = r
  earlier (e ∷ m) l r = earlier m l r.2

  -- every state that a run reaches is well formed
  pub run_formed : (l : List Entry) → Run X l → (i : ℕ) → correct i ≡ true → well_formed (engine_after X l i).state (engine_after X l i).table ≡ true
  run_formed l r i c = (run-good X l r i c).formed

  -- the entries m follow the entries l
  module _ (m l : List Entry) (r : Run X (m ++ l)) (i : ℕ) (c : correct i ≡ true) where
    -- a block once made stays, with its number, its round and its certificates
    pub block_kept : (n : ℕ) {b : Block Content} → block_numbered (chain (engine_after X l i)) n ≡ Some b → block_numbered (chain (engine_after X (m ++ l) i)) n ≡ Some b
    block_kept n = agreement.block-kept (group X) m l (run-ruled X (m ++ l) r) i c n

    -- and as chains are listed: the later one lists the same blocks, with the same certificates in the same order, and perhaps more
    pub chain_kept : Prefix (engine_after X l i) (engine_after X (m ++ l) i)
    chain_kept =
        prefix-own (engine_after X l i) (engine_after X (m ++ l) i) (run-good X l (earlier m l r) i c) (run-good X (m ++ l) r i c)
        (lists-prefix (ordered settings) (agreement.chain-grows (group X) m l (run-ruled X (m ++ l) r) i c))
