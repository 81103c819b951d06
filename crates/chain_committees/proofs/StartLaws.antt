-- Laws of the starts that are written beside a running committee.
use Rattle.std.proofs.Common.{◌≡◌, sym, ◌∙◌, List, ℕ, ◌+◌, ◌<◌, ◌≤◌, arith, get_or, set, replicate, length-set, get_or-set_same, get_or-set_other, unwrap_or}
use Rattle.base.proofs.Words.{ℕ_discrete, length-replicate}
use Rattle.store.specs.Table.{block_round}
use Rattle.terms.specs.declared.sheet.Settings.{Settings}
use Rattle.committee.specs.Chain.{chain_of}
use Rattle.committee.specs.Committees.{committee_of, leader_by, start_of}
use Rattle.committee.specs.Leaders.{leader_of}
use Rattle.committee.proofs.LeaderLaws.{leader_le}
use Rattle.terms.specs.Ranges.{weight_in}
use Rattle.chain_committees.specs.BlockChanges.{place_change, start_at}
use Rattle.chain_committees.proofs.BlockChangeLaws.{block-rows}
use Rattle.chain_committees.proofs.BoundLaws.{after_total}
use Rattle.chain_committees.specs.LinkRuns.{rows_over}
use Rattle.chain_committees.proofs.ChainLaws.{last_more, fits-at, start-whole, start-now}
use Rattle.chain_committees.specs.ChainInTable.{ChainInTable, AfterBlocks}
use Rattle.chain_committees.proofs.ChainInTableLaws.{after_next}
use Rattle.chain_committees.specs.Starts.{Started, StartsAhead}
use Rattle.terms.specs.declared.sheet.Weight.{Weight}

-- a start is the number of a member, or 16 for none
pub start_le : (S : Settings) (t : List ℕ) (k : ℕ) → start_at S t k ≤ 16
unfolding start_at start_of leader_by
start_le S t k = leader_le _ _

-- it is the leader by the committee of its round
pub start_led : {S : Settings} {t : List ℕ} {blocks k j v r : ℕ} {w : List Weight} → ChainInTable S t blocks → k < blocks → r ≡ block_round t j → j ≡ k + 1 → w ≡ committee_of S (chain_of S.ceiling t blocks) r → v ≡ unwrap_or (leader_of (weight_in w) r) 16 → v ≡ start_at S t k
unfolding leader_by
start_led {S} {t} {blocks} {k} a h at i e l = rw (e, at, i) at l ∙ sym (start-whole S t blocks a.rounds k h)

module _ {S : Settings} {t : List ℕ} {blocks : ℕ} where
  -- the rounds of blocks rise
  round-next : ChainInTable S t blocks → (i : ℕ) → i + 1 < blocks → block_round t (i + 1) < block_round t (i + 1 + 1)
  round-next a i h = let p = (fits-at S.ceiling t blocks a.rounds (i + 1) h).rises in let q = last_more t i in omega arith

  -- none is written yet
  pub started_none : (n : ℕ) → Started S t blocks 0 0 (replicate 512 n)
  started_none n = record { size = length-replicate 512 n; from = omega arith; to = omega arith; written = λ i h. absurd (omega arith); ahead = λ h. absurd (omega arith) }

  -- one start more: that of a block within lookback rounds of the one to be applied next
  pub started_next : {k i r : ℕ} {q : ℕ} {w : List Weight} {starts : List ℕ} {v : ℕ} → ChainInTable S t blocks → i < blocks → r ≡ block_round t (i + 1) → r ≤ block_round t (k + 1) + S.lookback → v ≡ unwrap_or (leader_of (weight_in w) r) 16
      → AfterBlocks S t blocks q k w → Started S t blocks k i starts → Started S t blocks k (i + 1) (set starts i v)
  unfolding leader_by
  started_next {k} {i} {r} {q} {w} {starts} {v} a h at near e x s =
      record {
        size = length-set starts i v ∙ s.size;
        from = let l = s.from in omega arith;
        to = omega arith;
        written = λ j l. go j l (ℕ_discrete j i);
        ahead = λ z l. let p = s.ahead z h in let r = round-next a i l in omega arith;
      }
    where
      start : v ≡ start_at S t i
      start = e ∙ rw (at, x.weights) (sym (start-now S t blocks a.rounds k i s.from h (λ z. s.ahead z h) (omega arith)))

      few : i < 512
      few = let f = a.few in let c = a.ceiling in omega arith

      go : (j : ℕ) → j < i + 1 → Dec (j ≡ i) → get_or (set starts i v) j 0 ≡ start_at S t j
      go j l (yes d) = rw (d, get_or-set_same starts i v 0 (let z = s.size in let f = few in omega arith)) start
      go j l (no d) = get_or-set_other starts i j v 0 d ∙ s.written j (omega arith)

  -- one block more is applied
  pub started_applied : {k f : ℕ} {starts : List ℕ} → StartsAhead S t blocks k f starts → Started S t blocks (k + 1) f starts
  started_applied {k} a =
      let s = a.started in
      let o = a.own in
      record {
        size = s.size;
        from = omega arith;
        to = s.to;
        written = s.written;
        ahead = λ _ u. rw (last_more t k) (a.ahead u);
      }

  -- one block more is applied, in its own order
  pub after_applied : {k f : ℕ} {w v : List Weight} {starts : List ℕ} → ChainInTable S t blocks → k < blocks → AfterBlocks S t blocks 1024 k w → StartsAhead S t blocks k f starts
      → v ≡ rows_over (place_change t (k + 1)) (get_or starts k 0) S.ceiling w → AfterBlocks S t blocks 1024 (k + 1) v
  after_applied {k} {f} {w} {v} a h x s e =
      let b = (fits-at S.ceiling t blocks a.rounds k h).below in
      let c = a.ceiling in
      after_next v h (omega arith) (e ∙ rw (s.started.written k s.own) (sym (block-rows S t k w))) x

-- how far the next block may start, and how heavy the committee before it is
pub ruleset next_bounds = (start_le, after_total)
