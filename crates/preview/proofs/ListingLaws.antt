-- The listing of the chain after an accepted commit: what was listed, and then the blocks whose entries a preview tells.
use Rattle.std.proofs.Common.{◌≡◌, refl, sym, ap, ◌∙◌, List, [], ◌∷◌, ◌++◌, append_assoc, append-nil, ℕ, zero, suc, ◌+◌, ◌-◌, ◌≤◌, arith, length, length-append}
use Rattle.agreement.specs.Listing.{listing}
use Rattle.terms.specs.Proposals.{Content}
use Rattle.terms.specs.declared.sheet.Settings.{Settings}
use Rattle.committee.specs.Chain.{block_at, chain_of}
use Rattle.committee.specs.Committees.{ordered}
use Rattle.committee.proofs.ChainLaws.{chain_more}
use Rattle.rules.specs.Tests.{MemberView}
use Rattle.state.specs.declared.State.{State}
use Rattle.commit.specs.Commit.{commit_refusal, commit_state, commit_table_after, ruled_view}
use Rattle.commit.proofs.MadeLaws.{rules_give}
use Rattle.preview.specs.Entries.{entries_of, entries_after}
use Rattle.preview.specs.Preview.{preview_entries}
use Rattle.preview.specs.Claims.{listed_entries, ListsBeyond}
use Rattle.preview.proofs.PreviewLaws.{chain-before, blocks_grow}

-- one block more
listed_more : (k : ℕ) (l : List (ℕ × List Content)) (x : ℕ × List Content) → listed_entries k (l ++ (x ∷ [])) ≡ listed_entries k l ++ entries_of (suc (k + length l)) x.1
unfolding listed_entries
listed_more k [] x = let e : k + 0 ≡ k = omega arith in rw e (append-nil (entries_of (suc k) x.1))
listed_more k (y ∷ l) x =
    let e : suc k + length l ≡ k + suc (length l) = omega arith in
    rw (listed_more (suc k) l x, e) (sym (append_assoc (entries_of (suc k) y.1) (listed_entries (suc k) l) (entries_of (suc (k + suc (length l))) x.1)))

module _ (S : Settings) (u : List ℕ) (k : ℕ) where
  abbrev n : ℕ
  n = S.ceiling

  -- a block as it is listed
  abbrev one : ℕ → ℕ × List Content
  one j = ((block_at n u (suc j)).round, ordered S (block_at n u (suc j)) (chain_of n u j))

  -- the d blocks after the first k, oldest first
  unfoldable blocks_listed : ℕ → List (ℕ × List Content)
  blocks_listed zero = []
  blocks_listed (suc d) = blocks_listed d ++ (one (k + d) ∷ [])

  blocks-length : (d : ℕ) → length (blocks_listed d) ≡ d
  unfolding blocks_listed
  blocks-length zero = refl
  blocks-length (suc d) = let h = blocks-length d in rw (length-append (blocks_listed d) (one (k + d) ∷ [])) (omega arith)

  blocks-listed : (d : ℕ) → listing (ordered S) (chain_of n u (k + d)) ≡ listing (ordered S) (chain_of n u k) ++ blocks_listed d
  unfolding blocks_listed listing
  blocks-listed zero = let e : k + 0 ≡ k = omega arith in rw e (sym (append-nil (listing (ordered S) (chain_of n u k))))
  blocks-listed (suc d) =
      let e : k + suc d ≡ suc (k + d) = omega arith in
      rw (e, chain_more n u (k + d), blocks-listed d) (append_assoc (listing (ordered S) (chain_of n u k)) (blocks_listed d) (one (k + d) ∷ []))

  blocks-entries : (d : ℕ) → listed_entries k (blocks_listed d) ≡ entries_after S u k d
  unfolding blocks_listed listed_entries entries_after
  blocks-entries zero = refl
  blocks-entries (suc d) = listed_more k (blocks_listed d) (one (k + d)) ∙ rw (blocks-length d, blocks-entries d) refl

-- an accepted commit's chain on the table
pub chain_previewed : (s : State) (t : List ℕ) → commit_refusal s t ≡ 0
    → let n = s.settings.ceiling in ListsBeyond s.settings s.blocks (chain_of n t s.blocks) (chain_of n (commit_table_after s t) (commit_state s t).blocks) (preview_entries s t)
unfolding preview_entries
chain_previewed s t ok =
    let S = s.settings in
    let n = S.ceiling in
    let k = s.blocks in
    let u = commit_table_after s t in
    let c = (commit_state s t).blocks in
    let h : k ≤ c = blocks_grow s t ok in
    let e : k + (c - k) ≡ c = omega arith in
    record {
      more = blocks_listed S u k (c - k);
      lists = (rw e at (blocks-listed S u k (c - k))) ∙ rw (chain-before s t ok) refl;
      told = blocks-entries S u k (c - k);
    }

-- it is the rules'
pub ruled_previewed : (s : State) (t : List ℕ) → commit_refusal s t ≡ 0
    → ListsBeyond s.settings s.blocks (chain_of s.settings.ceiling t s.blocks) (ruled_view s t).chain (preview_entries s t)
ruled_previewed s t ok = rw (← ap (λ (v : MemberView s.settings). v.chain) (rules_give s t ok).its_view) (chain_previewed s t ok)
