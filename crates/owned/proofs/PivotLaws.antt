-- Laws of the list of certificates that a commit hangs on: whose leader its votes go by.
use Rattle.std.proofs.Common.{◌≡◌, sym, ◌∙◌, List, ℕ, ◌-◌, unwrap_or}
use Rattle.base.specs.Checks.{refusal}
use Rattle.terms.specs.Ranges.{weight_in}
use Rattle.terms.specs.declared.sheet.Weight.{Weight}
use Rattle.committee.specs.Chain.{chain_of}
use Rattle.committee.specs.Leaders.{leader_of}
use Rattle.committee.specs.declared.committees.Committee.{Committee}
use Rattle.chain_committees.proofs.FillLaws.{leader-at}
use Rattle.state.specs.declared.State.{State}
use Rattle.state.specs.Formed.{Formed}
use Rattle.votes.specs.Checks.{time_checks, committee_on}
use Rattle.votes.specs.Ready.{AnchorLed}
use Rattle.votes.proofs.CheckLaws.{timely}

-- the leader of the round before, by the committee of that round
pub led : {s : State} {t : List ℕ} {a : ℕ} {b : List Weight} {w : Committee} → Formed s t → 0 ≡ refusal (time_checks s t)
    → b ≡ committee_on s t (s.round - 1) → a ≡ unwrap_or (leader_of (weight_in b) (s.round - 1)) 16
    → w.weights ≡ committee_on s t s.round → w.margin ≡ s.settings.margin → AnchorLed s t a w
led {s} {t} f z e x k m = record {
  formed = f;
  from = (timely s t f (sym z)).from;
  leader = (rw e at x) ∙ sym (leader-at s.settings (chain_of s.settings.ceiling t s.blocks) (s.round - 1));
  committee = k;
  margin = m;
}
