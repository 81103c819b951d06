-- The entries of a preview are what it tells without committing, and fit into a list of three words for each place.
use Rattle.std.proofs.Common.{◌≡◌, sym, ap, ap₂, ◌∙◌, List, ℕ, ◌-◌, ◌*◌, ◌≤◌, arith, length}
use Rattle.committee.specs.Chain.{chain_of}
use Rattle.chain_committees.specs.BlockChanges.{last_round}
use Rattle.blocks.specs.Anchors.{taken_leaders}
use Rattle.state.specs.declared.State.{State}
use Rattle.votes.specs.Checks.{leaders_for}
use Rattle.commit.specs.Commit.{commit_refusal, blocks_then, committed_table, commit_state, commit_table_after}
use Rattle.commit.proofs.MadeLaws.{state-then, table-then}
use Rattle.commit.proofs.PreservedLaws.{blocks-added}
use Rattle.prospects.specs.Prospects.{words_after}
use Rattle.preview.specs.Entries.{entries_after, words_of}
use Rattle.preview.specs.Preview.{preview_entries}
use Rattle.prospects.proofs.CountLaws.{places-most}
use Rattle.prospects.proofs.ProspectLaws.{taken, words_count}
use Rattle.preview.proofs.StageLaws.{Told, commit-told}
use Rattle.preview.proofs.AnchoredLaws.{anchored}

module _ (s : State) (t : List ℕ) (ok : commit_refusal s t ≡ 0) where
  abbrev k : ℕ
  k = s.blocks

  abbrev m : ℕ
  m = last_round t k

  abbrev top : ℕ
  top = s.round - 1

  abbrev left : List ℕ
  left = taken_leaders t m top (leaders_for s t)

  -- the blocks that the commit would make
  entries-then : preview_entries s t ≡ entries_after s.settings (committed_table s t) k (blocks_then s t - k)
  unfolding preview_entries
  entries-then =
      sym (ap₂ (λ (x : State) (u : List ℕ). entries_after s.settings u k (x.blocks - k)) (sym (state-then s t ok)) (sym (table-then s t ok)))

  -- what the table tells after the commit
  told : Told s.settings t (leaders_for s t) m top k top (blocks_then s t) (committed_table s t)
  unfolding blocks_then committed_table
  told = commit-told s.settings t (leaders_for s t) m top k (anchored s t ok)

  -- the words of the entries are those that are listed without committing
  pub words-listed : words_of (preview_entries s t) ≡ words_after t left m (top - m) k
  words-listed = ap words_of entries-then ∙ told.words

  -- a list of three words for each place has room for them
  pub words-room : length (words_of (preview_entries s t)) ≤ 3 * (16 * s.settings.ceiling)
  words-room =
      let n = s.settings.ceiling in
      let w = anchored s t ok in
      let e = words_count t left m n (top - m) k (omega (arith, w.above, w.inside)) in
      let h = places-most (taken t left m (top - m)) n in
      rw words-listed (omega arith)

  -- blocks are only added, and those that were there stay
  pub blocks_grow : k ≤ (commit_state s t).blocks
  blocks_grow =
      let b = blocks-added s t ok in
      rw (state-then s t ok) (omega arith)

  pub chain-before : chain_of s.settings.ceiling (commit_table_after s t) k ≡ chain_of s.settings.ceiling t k
  chain-before = rw (table-then s t ok) told.before
