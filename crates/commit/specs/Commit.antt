-- Commit on a state and its table: the number that refuses, the state and the table, and that they are those of the rules.
use Rattle.std.specs.Prelude.{◌≡◌, List, ℕ, ◌+◌, ◌-◌, length}
use Rattle.chain_committees.specs.BlockChanges.{last_round}
use Rattle.rules.specs.Tests.{MemberView}
use Rattle.rules.specs.Calls as rules
use Rattle.state.specs.declared.State.{State}
use Rattle.state.specs.View.{view}
use Rattle.state.specs.Refusals.{refusal_of}
use Rattle.state.specs.Answers.{if_accepted}
use Rattle.votes.specs.Checks.{leaders_for}
use Rattle.blocks.specs.Blocks.{commit_table, commit_count}

-- the state with k blocks
abbrev pub with_blocks : State → ℕ → State
with_blocks s k = record s { blocks = k }

module _ (s : State) (t : List ℕ) where
  -- the number of the first check that refuses, 0 for none
  unfoldable pub commit_refusal : ℕ
  commit_refusal = refusal_of s t rules.commit

  -- how many blocks there are after an accepted commit, and the table
  unfoldable pub blocks_then : ℕ
  blocks_then = commit_count (last_round t s.blocks) (s.round - 1) s.blocks (leaders_for s t) t

  unfoldable pub committed_table : List ℕ
  committed_table =
      commit_table (last_round t s.blocks) (s.round - 1) s.blocks (leaders_for s t) t

  -- a refused commit changes nothing
  unfoldable pub commit_state : State
  commit_state = if_accepted commit_refusal (with_blocks s blocks_then) s

  unfoldable pub commit_table_after : List ℕ
  commit_table_after = if_accepted commit_refusal committed_table t

  -- ---- the rules' commit

  -- the view after it
  abbrev pub ruled_view : MemberView s.settings
  ruled_view = rules.after s.settings s.own.0 (view s t) rules.commit

  -- of an accepted one the value n, the state x and the table u are what the rules give: of the state only the number of blocks changes; state and table show the rules' next view;
  -- and the value is the number of blocks that the rules add, which are the blocks that the state has more
  pub record RulesGive (n : ℕ) (x : State) (u : List ℕ) : Type 0 where
    pub its_state : x ≡ with_blocks s x.blocks
    pub its_view : view (with_blocks s x.blocks) u ≡ ruled_view
    pub its_value : n + length (view s t).chain ≡ length ruled_view.chain
    pub its_blocks : n + s.blocks ≡ x.blocks
