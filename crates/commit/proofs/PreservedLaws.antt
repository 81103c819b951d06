-- After an accepted commit: the state stays well formed, at least one block is new, and nothing beyond the rounds of the state changes.
use Rattle.std.proofs.Common.{◌≡◌, refl, ap, ◌∙◌, true, List, ⊎_elim, ℕ, ◌+◌, ◌-◌, ◌/◌, ◌%◌, ◌<◌, ◌≤◌, arith, get_or, length, drop}
use Rattle.base.proofs.Words.{ℕ_discrete, dec_lt}
use Rattle.base.proofs.SetLaws.{in_member}
use Rattle.store.specs.Table.{used_length, Row, block_round, held_at, mark_at}
use Rattle.store.proofs.TableLaws.{held-member}
use Rattle.store.proofs.MarkLaws.{held-marked, content-marked, beyond-marked}
use Rattle.ports.proofs.KeptLaws.{PortsKept}
use Rattle.ports.proofs.WrittenLaws.{kept_by, first-words}
use Rattle.scan.specs.Scan.{rows_fit}
use Rattle.scan.proofs.FitLaws.{rows-marked}
use Rattle.committee.proofs.ChainLaws.{chain_length}
use Rattle.chain_committees.specs.BlockChanges.{last_round}
use Rattle.chain_committees.proofs.ChainLaws.{BlockFits, fits-at, last_none, last_some}
use Rattle.blocks.proofs.TakenLaws.{taken-left}
use Rattle.blocks.proofs.CommitLaws.{commit-stage, commit-round-old, commit-mark, commit-rounds, commit-last}
use Rattle.state.specs.declared.State.{State}
use Rattle.state.specs.View.{view}
use Rattle.state.specs.Formed.{Formed}
use Rattle.queues.proofs.WordLaws.{fits-same}
use Rattle.state.proofs.FormedLaws.{formed-by}
use Rattle.commit.proofs.FirstRow.{first-commit}
use Rattle.state.proofs.RoundLaws.{blocks-whole, blocks-same}
use Rattle.commit.specs.Commit.{commit_refusal, blocks_then, committed_table}
use Rattle.votes.specs.Checks.{leaders_for}
use Rattle.votes.proofs.AnchorLaws.{leader_on, leader-even, leaders-on, leaders-length}
use Rattle.commit.proofs.CheckLaws.{Accepted, accepted}
use Rattle.commit.proofs.CommitLaws.{committed_state, only-marks}

module _ (s : State) (t : List ℕ) (ok : commit_refusal s t ≡ 0) where
  abbrev n : ℕ
  n = s.settings.ceiling

  abbrev r : ℕ
  r = s.round

  abbrev k : ℕ
  k = s.blocks

  abbrev m : ℕ
  m = last_round t k

  abbrev l : List ℕ
  l = leaders_for s t

  abbrev u : List ℕ
  u = committed_table s t

  abbrev c : ℕ
  c = blocks_then s t

  y : Accepted s t
  y = accepted s t ok

  long : Row t (r - 1)
  long = omega (arith, y.formed.long, y.formed.numbers.round_to)

  led : (q : ℕ) → m < q → q < r → get_or l q 0 ≡ leader_on s t q
  led q h i = leaders-on s t q h i (omega (arith, y.formed.numbers.round_to, y.formed.settings.ceiling_to))

  -- at least one block is added, and the last of them is the anchor's
  pub blocks-added : (k < c) × (block_round u c ≡ r - 1)
  unfolding committed_table blocks_then
  blocks-added =
      let w = y.timely in
      commit-last m (r - 1) k l t w.few w.above long (rw (led (r - 1) w.above (omega (arith, w.from))) (in_member _ _ y.led))

  -- ---- marks

  mark-then : (a q : ℕ) → 0 < q → q ≤ n → held_at t a q ≡ true → mark_at t a q ≤ k → mark_at u a q ≤ c
  unfolding committed_table blocks_then
  mark-then a q from to h i =
      let w = y.timely in
      ⊎_elim (λ e. omega (arith, blocks-added.0)) (λ e. e.2) (commit-mark m (r - 1) k l t w.few w.above long a q (held-member t a q h) from)

  rows_then : rows_fit u s.settings.allowance c n ≡ true
  rows_then = rows-marked (only-marks s t ok) s.settings.allowance k c n mark-then y.formed.rows

  -- ---- block rounds

  old-round : (j : ℕ) → j ≤ k → block_round u j ≡ block_round t j
  unfolding committed_table
  old-round j h = let w = y.timely in commit-round-old m (r - 1) k l t w.few w.above j h

  record New (j : ℕ) : Type 0 where
    even : block_round u j % 2 ≡ 0
    above : m < block_round u j
    below : block_round u j < r

  new-round : (j : ℕ) → k < j → j ≤ c → New j
  unfolding committed_table blocks_then
  new-round j h i =
      let w = y.timely in
      let z = (commit-rounds m (r - 1) k l t w.few w.above long).inside j h i in
      let q = block_round u j in
      let low : q < r = omega (arith, z.1, w.from) in
      let top = leaders-length s t l refl in
      let e = (taken-left t m (r - 1) l w.above (omega (arith, y.formed.numbers.round_to, y.formed.settings.ceiling_to)) q z.2).0 in
      record { even = leader-even s t q (omega (arith, e, z.2, led q z.0 low)); above = z.0; below = low }

  rising : (j : ℕ) → k < j → j < c → block_round u j < block_round u (j + 1)
  unfolding committed_table blocks_then
  rising j h i = let w = y.timely in (commit-rounds m (r - 1) k l t w.few w.above long).rising j (j + 1) h (omega arith) (omega arith)

  -- the round of the newest of the blocks there were
  last-old : last_round u k ≤ m
  last-old = go (ℕ_discrete k 0)
    where
      go : Dec (k ≡ 0) → last_round u k ≤ m
      go (yes z) = omega (arith, ap (last_round u) z, last_none u)
      go (no z) = omega (arith, last_some u k z, last_some t k z, old-round k (omega arith))

  block-fits : (j : ℕ) → j < c → BlockFits n u j
  block-fits j h = go (dec_lt j k) (ℕ_discrete j k)
    where
      go : Dec (j < k) → Dec (j ≡ k) → BlockFits n u j
      go (yes i) d = fits-at n u k (blocks-same n t u k old-round y.formed.rounds) j i
      go (no i) d =
          let e = new-round (j + 1) (omega arith) (omega arith) in
          record { even = e.even; rises = rises d; below = omega (arith, e.below, y.formed.numbers.round_to) }
        where
          rises : Dec (j ≡ k) → last_round u j < block_round u (j + 1)
          rises (yes z) = omega (arith, ap (last_round u) z, last-old, (new-round (j + 1) (omega arith) (omega arith)).above)
          rises (no z) = omega (arith, last_some u j (λ x. omega arith), rising j (omega arith) h)

  -- ---- ports

  mark-stays : (a q : ℕ) → a < 16 → 0 < q → 1 ≤ mark_at t a q → mark_at u a q ≡ mark_at t a q
  unfolding committed_table
  mark-stays a q h from i = let w = y.timely in ⊎_elim (λ e. e) (λ e. absurd (omega (arith, e.0))) (commit-mark m (r - 1) k l t w.few w.above long a q h from)

  -- the lines of certificates in blocks stay
  pub ports-commit : PortsKept t u n k c
  ports-commit =
      kept_by t u n k c (omega (arith, blocks-added.0))
      (λ p x.
      record {
        held = held-marked (only-marks s t ok) (p % 16) (p / 16);
        mark = mark-stays (p % 16) (p / 16) (omega arith) (omega (arith, x.from)) x.mark_from;
        content = content-marked (only-marks s t ok) (p % 16) (p / 16);
        round = old-round (mark_at t (p % 16) (p / 16)) x.mark_to;
      })
      (first-words t u (first-commit s t ok))

  few : c ≤ n
  unfolding blocks_then
  few = let w = y.timely in omega (arith, (commit-stage m (r - 1) k l t w.few w.above).few, w.few, w.above, y.formed.numbers.round_to)

  -- the state stays well formed
  pub formed-commit : Formed (committed_state s t) u
  formed-commit =
      let f = y.formed in
      formed-by (committed_state s t) u f.is_in_range f.weighty
      (record { own = f.numbers.own; round_from = f.numbers.round_from; round_to = f.numbers.round_to; blocks_to = few })
      f.proposal (omega (arith, f.long, (only-marks s t ok).size)) rows_then (blocks-whole n u c block-fits) (fits-same t u (first-commit s t ok) ∙ f.queues)

  -- ---- the answer

  -- it is the number of blocks by which the chain grew
  pub count-commit : (length (view s t).chain ≡ k) × (length (view (committed_state s t) u).chain ≡ c)
  count-commit = (chain_length n t k, chain_length n u c)

  -- ---- the table

  -- words beyond the rounds of the state stay
  pub beyond-commit : (length u ≡ length t) × (drop (used_length n) u ≡ drop (used_length n) t)
  beyond-commit = ((only-marks s t ok).size, beyond-marked (only-marks s t ok))
