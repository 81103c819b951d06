-- Laws of the starts of blocks that are told by a list.
use Rattle.std.proofs.Common.{◌≡◌, ◌∙◌, List, ℕ, ◌+◌, ◌<◌, ◌≤◌, arith, get_or, set, replicate, length-set, get_or-set_same, get_or-set_other}
use Rattle.base.proofs.Words.{ℕ_discrete, length-replicate}
use Rattle.terms.specs.declared.sheet.Settings.{Settings}
use Rattle.chain_committees.specs.BlockChanges.{start_at}
use Rattle.spans.specs.Starts.{StartsTold}

module _ {S : Settings} {t : List ℕ} {m : ℕ} where
  pub starts_none : (n : ℕ) → StartsTold S t m m (replicate 512 n)
  starts_none n = record { size = length-replicate 512 n; told = λ k h l. absurd (omega arith) }

  -- those of fewer blocks
  pub starts_later : {n : ℕ} {starts : List ℕ} → StartsTold S t 0 n starts → StartsTold S t m n starts
  starts_later s = record { size = s.size; told = λ k h l. s.told k (omega arith) l }

  -- one more
  pub starts_more : {i v : ℕ} {starts : List ℕ} → i < 512 → v ≡ start_at S t i → StartsTold S t m i starts → StartsTold S t m (i + 1) (set starts i v)
  starts_more {i} {v} {starts} h e s = record { size = length-set starts i v ∙ s.size; told = λ k x y. go k x y (ℕ_discrete k i) }
    where
      go : (k : ℕ) → m ≤ k → k < i + 1 → Dec (k ≡ i) → get_or (set starts i v) k 0 ≡ start_at S t k
      go k x y (yes d) = rw (d, get_or-set_same starts i v 0 (omega (arith, s.size))) e
      go k x y (no d) = get_or-set_other starts i k v 0 d ∙ s.told k x (omega arith)
