-- The read of what blocks in a row hold: its checks, the number that refuses it, what it gives, and what the lent list holds then.
use Rattle.std.specs.Prelude.{List, [], ◌∷◌, ℕ, ◌+◌, ◌/◌, nat_lt, length}
use Rattle.std.proofs.lemmas.List.Edits.{sets}
use Rattle.base.specs.Checks.{Checks, refusal}
use Rattle.agreement.specs.Rules.{Chain}
use Rattle.terms.specs.Proposals.{Content}
use Rattle.terms.specs.declared.sheet.Settings.{Settings}
use Rattle.reads.specs.declared.Held.{Held}
use Rattle.words.specs.Lengths.{held_length}
use Rattle.state.specs.declared.State.{State}
use Rattle.state.specs.View.{view}
use Rattle.state.specs.Refusals.{guarded}
use Rattle.state.specs.Answers.{if_accepted}
use Rattle.spans.specs.Spans.{words_of, count_after, held_after}

-- of the n blocks after the first m: 23 there are fewer, 25 a list of so many words has no room for their certificates, of eighteen words each
abbrev pub blocks_checks : Settings → Chain Content → ℕ → ℕ → ℕ → Checks
blocks_checks S c m n words =
    (nat_lt (length c) (m + n), 23) ∷ (nat_lt (words / held_length) (count_after S c m n), 25) ∷ []

module _ (s : State) (t : List ℕ) where
  abbrev pub reading_blocks : ℕ → ℕ → ℕ → Checks
  reading_blocks m n words = blocks_checks s.settings (view s t).chain m n words

  unfoldable pub blocks_refusal : ℕ → ℕ → ℕ → ℕ
  blocks_refusal m n words = refusal (guarded s t (reading_blocks m n words))

  -- their certificates
  abbrev pub blocks_held : ℕ → ℕ → List Held
  blocks_held m n = held_after s.settings (view s t).chain t m n

  -- what the lent list holds then: these, and its rest as it was
  unfoldable pub blocks_list : ℕ → ℕ → List ℕ → List ℕ
  blocks_list m n list =
      if_accepted (blocks_refusal m n (length list)) (sets list 0 (words_of (blocks_held m n))) list
