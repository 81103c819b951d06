-- The checks of a preview, and what is so of an accepted one: its commit would be accepted, and the lent list has room for its words.
use Rattle.std.proofs.Common.{◌≡◌, refl, sym, ◌∙◌, true, false, not, List, ℕ, ◌-◌, ◌*◌, ◌/◌, ◌≤◌, arith, ltb, length, le-ltb, ltb-false, eq-eqb}
use Rattle.base.proofs.Words.{sets}
use Rattle.base.specs.Checks.{refusal}
use Rattle.base.proofs.CheckLaws.{refuses, passes, cleared}
use Rattle.chain_committees.specs.BlockChanges.{last_round}
use Rattle.blocks.specs.Anchors.{taken_leaders}
use Rattle.rules.specs.Calls as rules
use Rattle.state.specs.declared.State.{State}
use Rattle.state.specs.View.{view}
use Rattle.state.specs.WellFormed.{well_formed}
use Rattle.state.specs.Refusals.{refusal_of}
use Rattle.votes.specs.Checks.{leaders_for}
use Rattle.state.specs.Answers.{if_accepted}
use Rattle.commit.specs.Commit.{commit_refusal}
use Rattle.commit.proofs.CheckLaws.{refusal-by}
use Rattle.prospects.specs.Prospects.{words_after}
use Rattle.preview.specs.Preview.{previewing, preview_refusal, preview_list}
use Rattle.preview.proofs.PreviewLaws.{words-listed, words-room}

module _ (s : State) (t : List ℕ) where
  -- ---- check by check

  module _ (words : ℕ) where
    pub preview-unread : well_formed s t ≡ false → preview_refusal s t words ≡ 1
    unfolding preview_refusal
    preview-unread e = refuses 1 (previewing s t words) (rw e refl)

    -- with room enough the checks are those of the commit
    pub preview-rest : well_formed s t ≡ true → 16 * s.settings.ceiling ≤ words / 3 → preview_refusal s t words ≡ commit_refusal s t
    unfolding preview_refusal
    preview-rest e h = passes 1 (previewing s t words) (rw e refl) ∙ passes 25 _ (le-ltb (words / 3) (16 * s.settings.ceiling) h) ∙ sym (refusal-by s t e)

  -- ---- what is so where none refuses

  -- the list has room for every place, and the commit would be accepted
  pub preview-passed : (words : ℕ) → preview_refusal s t words ≡ 0 → (16 * s.settings.ceiling ≤ words / 3) × (commit_refusal s t ≡ 0)
  unfolding preview_refusal commit_refusal refusal_of
  preview-passed words e =
      let n = 16 * s.settings.ceiling in
      let l = rules.checks s.settings s.own.0 (view s t) rules.commit in
      let p = cleared (not (well_formed s t)) 1 (previewing s t words) (omega arith) e in
      let q = cleared (ltb (words / 3) n) 25 l (omega arith) p.1 in
      (ltb-false (words / 3) n q.0, passes 1 l p.0 ∙ q.1)

  -- by the checks of a well-formed state
  pub preview-none : (words : ℕ) → well_formed s t ≡ true → 0 ≡ refusal (previewing s t words) → preview_refusal s t words ≡ 0
  unfolding preview_refusal
  preview-none words e z = passes 1 (previewing s t words) (rw e refl) ∙ sym z

  module _ (list : List ℕ) where
    module _ (ok : preview_refusal s t (length list) ≡ 0) where
      abbrev words : List ℕ
      words =
          let m = last_round t s.blocks in
          let top = s.round - 1 in
          words_after t (taken_leaders t m top (leaders_for s t)) m (top - m) s.blocks

      -- an accepted one writes the words that are listed without committing
      pub list_accepted : preview_list s t list ≡ sets list 0 words
      unfolding preview_list if_accepted
      list_accepted = rw (eq-eqb (preview_refusal s t (length list)) 0 ok, words-listed s t (preview-passed (length list) ok).1) refl

      -- for which there is room
      pub list_room : length words ≤ length list
      list_room =
          let p = preview-passed (length list) ok in
          let h : length words ≤ 3 * (16 * s.settings.ceiling) = rw (words-listed s t p.1) at (words-room s t p.1) in
          omega (arith, p.0)
