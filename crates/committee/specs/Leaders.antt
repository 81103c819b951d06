-- Leaders: of the members of a committee by rising number, the one at position (r / 2) mod their count, for even r.
use Rattle.std.specs.Prelude.{Bool, ◌&&◌, if◌then◌else◌, List, ℕ, ◌/◌, ◌%◌, ◌==◌, nat_le, nat_lt, Option, None}
use Rattle.base.specs.Folds.{fold_to}
use Rattle.base.specs.Sets.{insert}
use Rattle.committee.specs.Positions.{count_below, member_below}
use Rattle.terms.specs.declared.sheet.Weight.{Weight}
use Rattle.terms.specs.Ranges.{weight_in}

-- the member at position k of a set
unfoldable pub member_at : (ℕ → Bool) → ℕ → Option ℕ
member_at set k = member_below set 16 k

-- those with a weight
abbrev pub members : (ℕ → ℕ) → ℕ → Bool
members w i = nat_lt 0 (w i)

-- the leader of an even round; none for an empty committee
unfoldable pub leader_of : (ℕ → ℕ) → ℕ → Option ℕ
leader_of w r =
    if r % 2 == 0 && nat_le 2 r then member_at (members w) (r / 2 % count_below (members w) 16)
    else None

-- the members as a set: s, with member i if it has a weight
unfoldable pub joined : List Weight → ℕ → ℕ → ℕ
joined w i s = if members (weight_in w) i then insert s i else s

unfoldable pub member_set : List Weight → ℕ
member_set w = fold_to (joined w) 16 0
