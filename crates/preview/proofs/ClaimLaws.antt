-- The claims of a preview.
use Rattle.std.proofs.Common.{◌≡◌, refl, sym, ◌∙◌, Bool, true, false, arith}
use Rattle.state.specs.WellFormed.{well_formed}
use Rattle.commit.specs.Commit.{commit_refusal}
use Rattle.commit.proofs.CheckLaws.{number-unread}
use Rattle.preview.specs.Preview.{preview_refusal, preview_entries}
use Rattle.preview.proofs.EntryLaws.{words-length}
use Rattle.preview.proofs.PreviewLaws.{words-room}
use Rattle.preview.proofs.ListingLaws.{ruled_previewed}
use Rattle.preview.proofs.RefusalLaws.{preview-unread, preview-rest}
use Rattle.commit.specs.Commit.{ruled_view}
use Rattle.state.specs.View.{view}
use Rattle.preview.specs.Claims.{ListsBeyond}
use Rattle.state.specs.declared.State.{State}
use Rattle.std.specs.Prelude.{List, ℕ, ◌*◌, ◌/◌, ◌≤◌, length}

-- where the list is long enough, the number is commit's
pub refused_as_commit : (s : State) (t : List ℕ) (words : ℕ) → 16 * s.settings.ceiling ≤ words / 3 → preview_refusal s t words ≡ commit_refusal s t
refused_as_commit s t words h = go (well_formed s t) refl
  where
    go : (b : Bool) → well_formed s t ≡ b → preview_refusal s t words ≡ commit_refusal s t
    go true e = preview-rest s t words e h
    go false e = preview-unread s t words e ∙ sym (number-unread s t e)

-- where commit is accepted, the entries are what the chain by the rules has then beyond the chain before
pub entries_beyond : (s : State) (t : List ℕ) → commit_refusal s t ≡ 0 → ListsBeyond s.settings s.blocks (view s t).chain (ruled_view s t).chain (preview_entries s t)
entries_beyond s t ok = ruled_previewed s t ok

-- at most 16 for each round of the ceiling: a list that check 25 lets pass has room for them
pub room_for_all : (s : State) (t : List ℕ) → commit_refusal s t ≡ 0 → length (preview_entries s t) ≤ 16 * s.settings.ceiling
room_for_all s t ok = omega (arith, words-length (preview_entries s t), words-room s t ok)
