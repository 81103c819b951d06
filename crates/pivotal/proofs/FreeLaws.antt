-- Above the last block's round no held certificate has a mark.
use Rattle.std.proofs.Common.{◌≡◌, refl, ◌∙◌, true, List, ◌≢◌, ℕ, zero, suc, ◌<◌, ◌≤◌, arith, eq-eqb}
use Rattle.base.proofs.Words.{ℕ_discrete}
use Rattle.agreement.specs.Dag.{is_held}
use Rattle.store.specs.Table.{held_at, mark_at, block_round}
use Rattle.scan.proofs.ScanLaws.{rows-held}
use Rattle.committee.specs.Chain.{chain_of, block_at}
use Rattle.chain_committees.specs.BlockChanges.{last_round}
use Rattle.chain_committees.proofs.ChainLaws.{last_some, last_up}
use Rattle.state.specs.declared.State.{State}
use Rattle.state.specs.Formed.{Formed}
use Rattle.state.proofs.FormedLaws.{formed}
use Rattle.reads.proofs.BlockLaws.{block_held}
use Rattle.engine.specs.Engine.{Engine}
use Rattle.engine.specs.Reached.{Reached}
use Rattle.engine.proofs.ReachedLaws.{reached_formed}
use Rattle.pivotal.proofs.BelowLaws.{Below, reached-below}

-- block j of a chain
block-at : (n : ℕ) (t : List ℕ) (k : ℕ) → Below (chain_of n t k) → (j : ℕ) → 0 < j → j ≤ k → (a q : ℕ) → is_held ((block_at n t j).holds a q) ≡ true → q ≤ block_round t j
unfolding chain_of block_at
block-at n t zero b j h l a q p = absurd (omega arith)
block-at n t (suc k) b j h l a q p = go (ℕ_discrete j (suc k)) (λ i. block-at n t k b.1 j h i a q p)
  where
    go : Dec (j ≡ suc k) → (j ≤ k → q ≤ block_round t j) → q ≤ block_round t j
    go (yes e) f = rw e (b.0 a q (rw e at p))
    go (no d) f = f (omega arith)

module _ (s : State) (t : List ℕ) (f : Formed s t) (b : Below (chain_of s.settings.ceiling t s.blocks)) where
  abbrev n : ℕ
  n = s.settings.ceiling

  pub free-above : (a q : ℕ) → held_at t a q ≡ true → last_round t s.blocks < q → q ≤ n → mark_at t a q ≡ 0
  free-above a q held above to = go (ℕ_discrete (mark_at t a q) 0)
    where
      from : 0 < q
      from = omega arith

      few : mark_at t a q ≤ s.blocks
      few = ((rows-held _ _ _ n f.rows q from to).records a held).mark

      marked : (mark_at t a q ≢ 0) → q ≤ last_round t s.blocks
      marked h =
          let k = mark_at t a q in
          let p = block-at n t s.blocks b k (omega arith) few a q (block_held n t a q from to held k ∙ eq-eqb k k refl) in
          let u = last_up n t s.blocks f.rounds k s.blocks few (omega arith) in
          omega (arith, p, u, last_some t k h)

      go : Dec (mark_at t a q ≡ 0) → mark_at t a q ≡ 0
      go (yes e) = e
      go (no h) = absurd (omega (arith, marked h))

-- so it is in every engine that calls lead to
pub none_above : (e : Engine) → Reached e → (a q : ℕ) → held_at e.table a q ≡ true → last_round e.table e.state.blocks < q → q ≤ e.state.settings.ceiling → mark_at e.table a q ≡ 0
none_above e r a q h above to = free-above e.state e.table (formed e.state e.table (reached_formed e r)) (reached-below r) a q h above to
