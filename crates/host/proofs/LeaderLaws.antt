-- A leader by sixteen weights of words is that by the words.
use Rattle.std.proofs.Common.{◌≡◌, refl, ℕ, ◌<◌, ◌/◌, ◌%◌, List}
use Rattle.base.specs.Folds.{tab}
use Rattle.base.proofs.FoldLaws.{get_d_tab}
use Rattle.terms.specs.Ranges.{weight, weight_in}
use Rattle.committee.specs.Leaders.{members, leader_of, member_at}
use Rattle.committee.specs.Positions.{count_below}
use Rattle.committee.proofs.PositionLaws.{count_same, below-same}
use Rattle.words.specs.Words.{word}

-- weights that agree on the sixteen members have one leader
leader-same : (v w : ℕ → ℕ) (r : ℕ) → ((i : ℕ) → i < 16 → v i ≡ w i) → leader_of v r ≡ leader_of w r
unfolding leader_of member_at
leader-same v w r h =
    let e : (i : ℕ) → i < 16 → members v i ≡ members w i = λ i l. rw (h i l) refl in
    rw (count_same (members v) (members w) 16 e, below-same (members v) (members w) 16 (r / 2 % count_below (members w) 16) e) refl

pub leader_told : (w : List ℕ) (r : ℕ) → leader_of (weight_in (tab (λ i. weight (word w i)) 16)) r ≡ leader_of (word w) r
unfolding tab
leader_told w r = leader-same (weight_in (tab (λ i. weight (word w i)) 16)) (word w) r (λ i l. rw (get_d_tab (λ i. weight (word w i)) 16 i (weight 0) l) refl)
