-- What an accepted preview answers and leaves in the list.
use Rattle.std.proofs.Common.{◌≡◌, sym, ap, ◌∙◌, true, List, ℕ, ◌-◌, ◌*◌, ◌/◌, ◌≤◌, arith, length}
use Rattle.base.specs.Puts.{Puts}
use Rattle.chain_committees.specs.BlockChanges.{last_round}
use Rattle.blocks.specs.Anchors.{taken_leaders}
use Rattle.base.specs.Checks.{refusal}
use Rattle.blocks.specs.HistoryReady.{AnchorsReady}
use Rattle.blocks.specs.WalkReady.{CommitReady}
use Rattle.commit.specs.Commit.{commit_refusal}
use Rattle.commit.proofs.CheckLaws.{accepted}
use Rattle.commit.proofs.MadeLaws.{ready}
use Rattle.prospects.specs.Ready.{StepsReady}
use Rattle.state.specs.WellFormed.{well_formed}
use Rattle.state.specs.declared.State.{State}
use Rattle.votes.specs.Checks.{leaders_for}
use Rattle.prospects.specs.Prospects.{words_after}
use Rattle.preview.specs.Entries.{words_of}
use Rattle.preview.specs.Preview.{previewing, preview_refusal, preview_entries, preview_list}
use Rattle.preview.proofs.EntryLaws.{words-length}
use Rattle.preview.proofs.PreviewLaws.{words-listed, words-room}
use Rattle.preview.proofs.RefusalLaws.{preview-passed, preview-none, list_accepted, list_room}

-- what the checks let pass, at the view that they looked at, which is that of the state and its table
pub record Passed (s : State) (t l : List ℕ) (words : ℕ) : Type 0 where
  pub accepted : preview_refusal s t words ≡ 0
  pub leaders : l ≡ leaders_for s t

pub passed : {s x : State} {t u l : List ℕ} {words : ℕ} → (x ≡ s) × (u ≡ t) × (well_formed s t ≡ true) → 0 ≡ refusal (previewing x u words) → l ≡ leaders_for x u → Passed s t l words
passed {s} {x} {t} {u} {l} {words} k z i = record { accepted = preview-none s t words k.2 (rw (k.0, k.1) at z); leaders = rw (k.0, k.1) at i }

walk : {s : State} {t l : List ℕ} {words m : ℕ} → Passed s t l words → m ≡ last_round t s.blocks → CommitReady t l m (s.round - 1) s.blocks
walk {s} {t} {l} {words} {m} p q = ready s t (preview-passed s t words p.accepted).1 l p.leaders m q

pub anchors_ready : {s : State} {t l : List ℕ} {words m : ℕ} → Passed s t l words → m ≡ last_round t s.blocks → AnchorsReady t l m (s.round - 1)
anchors_ready p q = (walk p q).anchors

-- where l' has the leaders that are taken
module _ {s : State} {t l l' : List ℕ} {m : ℕ} (list : List ℕ) (p : Passed s t l (length list)) (q : m ≡ last_round t s.blocks) (j : l' ≡ taken_leaders t m (s.round - 1) l) where
  abbrev words : List ℕ
  words = words_after t l' m (s.round - 1 - m) s.blocks

  taken : l' ≡ taken_leaders t m (s.round - 1) (leaders_for s t)
  taken = rw p.leaders at j

  ok : commit_refusal s t ≡ 0
  ok = (preview-passed s t (length list) p.accepted).1

  -- the words are those of the entries, three for each
  same : words ≡ words_of (preview_entries s t)
  same = rw (taken, q) (sym (words-listed s t ok))

  counted : length words ≡ 3 * length (preview_entries s t)
  counted = ap (λ (x : List ℕ). length x) same ∙ words-length (preview_entries s t)

  -- there is room for them
  pub steps_ready : length l' ≡ length l → StepsReady t l' m (s.round - 1) s.blocks list
  steps_ready h =
      let w = walk p q in
      let a = w.anchors in
      record { few = w.few; above = a.above; round = w.round; row = a.row; listed = omega (arith, a.listed); room = rw (taken, q) (list_room s t list p.accepted) }

  -- what is listed, and its number
  module _ {list' : List ℕ} {n : ℕ} (x : Puts list list' 0 n words (length words)) where
    pub number_fits : n ≤ 3 * (16 * 1024)
    number_fits =
        let few : length words ≤ 3 * (16 * s.settings.ceiling) = rw same (words-room s t ok) in
        omega (arith, x.past, (accepted s t ok).formed.settings.ceiling_to)

    pub number_told : n / 3 ≡ length (preview_entries s t)
    number_told = omega (arith, counted, x.past)

    pub list_told : list' ≡ preview_list s t list
    list_told = x.bytes ∙ sym (rw (sym q, sym taken) at (list_accepted s t list p.accepted))
