-- Proved: in every run the chains of correct members never fork, and committees are alike.
use Rattle.std.proofs.Common.{◌≡◌, sym, subst₂, true, List, ◌⊎◌, inl, inr, ℕ}
use Rattle.agreement.specs.Listing.{Lists}
use Rattle.terms.specs.declared.sheet.Settings.{Settings}
use Rattle.terms.specs.Ranges.{weight_in}
use Rattle.committee.specs.Committees.{committee_of, ordered, known_by}
use Rattle.rules.proofs.Runs as runs
use Rattle.rules.proofs.RunAgreement.{runs_agree}
use Rattle.nonforking.specs.Statement.{chain, Prefix, Knows, weights, Members, Entry, engine_after, Run, engine_behaviour, ChainsNeverFork}
use Rattle.nonforking.proofs.StartLaws.{group}
use Rattle.nonforking.proofs.RunLaws.{prefix-own, run-good, run-ruled}

module _ (X : Members engine_behaviour) (l : List Entry) (r : Run X l) where
  open X use {correct, settings}

  agreed : runs.Agreed (group X) l
  agreed = runs_agree (group X) l (run-ruled X l r)

  chains-agree : (i j : ℕ) → correct i ≡ true → correct j ≡ true → Prefix (engine_after X l i) (engine_after X l j) ⊎ Prefix (engine_after X l j) (engine_after X l i)
  chains-agree i j ci cj = go (agreed.chains i j ci cj)
    where
      go : Lists (ordered settings) (chain (engine_after X l i)) (chain (engine_after X l j)) ⊎ Lists (ordered settings) (chain (engine_after X l j)) (chain (engine_after X l i))
          → Prefix (engine_after X l i) (engine_after X l j) ⊎ Prefix (engine_after X l j) (engine_after X l i)
      go (inl x) = inl (prefix-own (engine_after X l i) (engine_after X l j) (run-good X l r i ci) (run-good X l r j cj) x)
      go (inr x) = inr (prefix-own (engine_after X l j) (engine_after X l i) (run-good X l r j cj) (run-good X l r i ci) x)

  committees-agree : (i j q : ℕ) → correct i ≡ true → correct j ≡ true → Knows (engine_after X l i) q → Knows (engine_after X l j) q
      → (m : ℕ) → weights (engine_after X l i) q m ≡ weights (engine_after X l j) q m
  committees-agree i j q ci cj =
      let x = chain (engine_after X l i) in
      let y = chain (engine_after X l j) in
      subst₂ (λ (S T : Settings). known_by S x q ≡ true → known_by T y q ≡ true → (m : ℕ) → weight_in (committee_of S x q) m ≡ weight_in (committee_of T y q) m)
      (sym (run-good X l r i ci).settings) (sym (run-good X l r j cj).settings) (agreed.committees i j q ci cj)

-- the claim
pub chains_never_fork : ChainsNeverFork
chains_never_fork X l r = record { chains = chains-agree X l r; committees = committees-agree X l r }
