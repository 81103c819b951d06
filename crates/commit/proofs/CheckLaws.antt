-- The number that refuses a commit, by its checks, and what an accepted one gives.
use Rattle.std.proofs.Common.{◌≡◌, refl, sym, ◌∙◌, true, false, List, ◌≢◌, ℕ, ◌-◌, arith}
use Rattle.base.proofs.Words.{ℕ_discrete}
use Rattle.base.specs.Checks.{refusal}
use Rattle.base.proofs.CheckLaws.{first-refuses, first_passes, numbered}
use Rattle.base.specs.Sets.{contains}
use Rattle.store.specs.Table.{held_set}
use Rattle.rules.specs.Calls as rules
use Rattle.state.specs.declared.State.{State}
use Rattle.state.specs.View.{view}
use Rattle.state.specs.WellFormed.{well_formed}
use Rattle.state.specs.Formed.{Formed}
use Rattle.state.proofs.FormedLaws.{formed}
use Rattle.state.proofs.RefusalLaws.{refusal-unformed, refusal-formed, refusal-passed}
use Rattle.votes.specs.Checks.{time_checks, vote_checks}
use Rattle.commit.specs.Commit.{commit_refusal}
use Rattle.votes.proofs.CheckLaws.{Timely, timely, voted}
use Rattle.votes.proofs.AnchorLaws.{leader_on}

module _ (s : State) (t : List ℕ) where
  -- the number on a well-formed state: by the rules' checks
  pub refusal-by : well_formed s t ≡ true → commit_refusal s t ≡ refusal (rules.checks s.settings s.own.0 (view s t) rules.commit)
  unfolding commit_refusal
  refusal-by e = refusal-formed s t rules.commit e

  pub refusal-late : well_formed s t ≡ true → refusal (time_checks s t) ≢ 0 → commit_refusal s t ≡ refusal (time_checks s t)
  unfolding commit_refusal
  refusal-late e n = refusal-formed s t rules.commit e ∙ first-refuses (time_checks s t) (vote_checks s t) (omega arith)

  pub refusal-timely : well_formed s t ≡ true → refusal (time_checks s t) ≡ 0 → commit_refusal s t ≡ refusal (vote_checks s t)
  unfolding commit_refusal numbered
  refusal-timely e n = refusal-formed s t rules.commit e ∙ first_passes (time_checks s t) (vote_checks s t) refl n

  pub number-unread : well_formed s t ≡ false → commit_refusal s t ≡ 1
  unfolding commit_refusal
  number-unread e = refusal-unformed s t rules.commit e

  -- what an accepted commit gives: the leader of the round before has its certificate held
  pub record Accepted : Type 0 where
    pub formed : Formed s t
    pub in_time : refusal (time_checks s t) ≡ 0
    pub timely : Timely s t
    pub voted : refusal (vote_checks s t) ≡ 0
    pub led : contains (held_set t (s.round - 1)) (leader_on s t (s.round - 1)) ≡ true

  pub accepted : commit_refusal s t ≡ 0 → Accepted
  unfolding commit_refusal
  accepted e = go (ℕ_discrete (refusal (time_checks s t)) 0)
    where
      go : Dec (refusal (time_checks s t) ≡ 0) → Accepted
      go (yes z) =
          let p = refusal-passed s t rules.commit e in
          let f = formed s t p.0 in
          let w = timely s t f z in
          let v = sym (refusal-timely p.0 z) ∙ e in
          record { formed = f; in_time = z; timely = w; voted = v; led = voted s t f w.from v }
      go (no z) = absurd (z (sym (refusal-late (refusal-passed s t rules.commit e).0 z) ∙ e))
