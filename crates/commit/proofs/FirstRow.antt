-- An accepted commit leaves row 0.
use Rattle.std.proofs.Common.{◌≡◌, List, ℕ, ◌-◌}
use Rattle.store.proofs.FirstRow.{SameFirst}
use Rattle.chain_committees.specs.BlockChanges.{last_round}
use Rattle.blocks.proofs.FirstRow.{commit-first}
use Rattle.state.specs.declared.State.{State}
use Rattle.votes.specs.Checks.{leaders_for}
use Rattle.commit.specs.Commit.{commit_refusal, committed_table}
use Rattle.commit.proofs.CheckLaws.{accepted}

pub first-commit : (s : State) (t : List ℕ) → commit_refusal s t ≡ 0 → SameFirst t (committed_table s t)
unfolding committed_table
first-commit s t ok = let w = (accepted s t ok).timely in commit-first (last_round t s.blocks) (s.round - 1) s.blocks (leaders_for s t) t w.few w.above
