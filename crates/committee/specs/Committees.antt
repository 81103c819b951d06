-- Committees, fault bounds and quorums. A committee is sixteen weights, 0 for a non-member.
use Rattle.std.specs.Prelude.{Bool, if◌then◌else◌, not, ◌&&◌, ◌||◌, List, [], ◌∷◌, ℕ, ◌+◌, ◌-◌, ◌/◌, ◌≤◌, nat_le, nat_lt, unwrap_or}
use Rattle.base.specs.Folds.{any_to}
use Rattle.agreement.specs.Weights.{weigh, total}
use Rattle.agreement.specs.Rules.{Block, Chain, last}
use Rattle.terms.specs.Proposals.{Content}
use Rattle.terms.specs.declared.sheet.Weight.{Weight}
use Rattle.terms.specs.declared.sheet.Settings.{Settings}
use Rattle.terms.specs.Ranges.{weight_in}
use Rattle.committee.specs.Changes.{changes_of, rows}
use Rattle.committee.specs.Leaders.{leader_of}

-- the committee of round r, where v is the bonded one of r minus lookback
unfoldable pub committee_by : Settings → ℕ → List Weight → List Weight
committee_by S r v = if nat_le r S.lookback then S.weights else v

-- the number of the leader of round r by its committee w, 16 for none
unfoldable pub leader_by : List Weight → ℕ → ℕ
leader_by w r = unwrap_or (leader_of (weight_in w) r) 16

-- what the block b, whose rows start with member a, does to the bonded committee of round s
unfoldable pub step_from : Settings → ℕ → Block Content → ℕ → List Weight → List Weight
step_from S s b a w = if nat_lt b.round s then changes_of (rows b a S.ceiling) w else w

-- the bonded committee of round s: the starting one changed by all blocks of rounds below s, in order; the rows of each start with the leader of its round
unfoldable pub bonded_from : Settings → Chain Content → ℕ → List Weight
bonded_from S [] s = S.weights
bonded_from S (b ∷ c) s =
    step_from S s b (leader_by (committee_by S b.round (bonded_from S c (b.round - S.lookback)))
    b.round) (bonded_from S c s)

-- the committee of round r
unfoldable pub committee_of : Settings → Chain Content → ℕ → List Weight
committee_of S c r = committee_by S r (bonded_from S c (r - S.lookback))

-- the leader of the round of the block b, where c is the chain below it; 16 for none: then numbers just rise, since 0 comes after 15
unfoldable pub start_of : Settings → Block Content → Chain Content → ℕ
start_of S b c = leader_by (committee_of S c b.round) b.round

-- the order inside a block: rounds rise, and within a round numbers rise from that of the leader of the block's round, with 0 after 15
unfoldable pub ordered : Settings → Block Content → Chain Content → List Content
ordered S b c = rows b (start_of S b c) S.ceiling

-- the chain tells the committee of round r: the bonded one of r minus lookback is known
unfoldable pub known_by : Settings → Chain Content → ℕ → Bool
known_by S c r = nat_le r (S.lookback + (last c + 2))

-- a margin in its range
pub record MarginFits (d : ℕ) : Type 0 where
  pub from : 3 ≤ d
  pub to : d ≤ 5

-- the fault bound of a total weight n, by the margin d
unfoldable pub bound_of : ℕ → ℕ → ℕ
bound_of d n = (n - 1) / d

-- what a quorum weighs at least
unfoldable pub quorum_weight : ℕ → ℕ → ℕ
quorum_weight d n = n - bound_of d n

-- somebody of the set is outside the committee
unfoldable pub outsider : (ℕ → ℕ) → (ℕ → Bool) → Bool
outsider w set = any_to (λ i. set i && not (nat_lt 0 (w i))) 16

-- the set weighs less than a quorum
unfoldable pub short : ℕ → (ℕ → ℕ) → (ℕ → Bool) → Bool
short d w set = nat_lt (weigh 16 w set) (quorum_weight d (total 16 w))

-- the set is a quorum: inside the committee, and of enough weight
unfoldable pub quorum : ℕ → (ℕ → ℕ) → (ℕ → Bool) → Bool
quorum d w set = not (outsider w set || short d w set)
