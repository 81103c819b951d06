-- A preview of commit on a state and its table: the number that refuses, the entries, and what the lent list holds.
use Rattle.std.specs.Prelude.{List, ◌∷◌, ℕ, ◌-◌, ◌*◌, ◌/◌, nat_lt, length}
use Rattle.std.proofs.lemmas.List.Edits.{sets}
use Rattle.base.specs.Checks.{Checks, refusal}
use Rattle.rules.specs.Calls as rules
use Rattle.state.specs.declared.State.{State}
use Rattle.state.specs.View.{view}
use Rattle.state.specs.Refusals.{guarded}
use Rattle.state.specs.Answers.{if_accepted}
use Rattle.commit.specs.Commit.{commit_state, commit_table_after}
use Rattle.preview.specs.Entries.{Entry, entries_after, words_of}

module _ (s : State) (t : List ℕ) where
  -- 25 a list of so many words has fewer than 16 places per round of the ceiling, of three words each; then the checks of commit
  abbrev pub previewing : ℕ → Checks
  previewing words = (nat_lt (words / 3) (16 * s.settings.ceiling), 25)
      ∷ rules.checks s.settings s.own.0 (view s t) rules.commit

  unfoldable pub preview_refusal : ℕ → ℕ
  preview_refusal words = refusal (guarded s t (previewing words))

  -- committing on a copy of state and table, and reading the new blocks
  unfoldable pub preview_entries : List Entry
  preview_entries =
      entries_after s.settings (commit_table_after s t) s.blocks
      ((commit_state s t).blocks - s.blocks)

  -- what the lent list holds then: the entries, and its rest as it was
  unfoldable pub preview_list : List ℕ → List ℕ
  preview_list list =
      if_accepted (preview_refusal (length list)) (sets list 0 (words_of preview_entries)) list
