use Rattle.std.proofs.Common.{ℕ, ◌≤◌, subst, sym}
use Rattle.committee.proofs.Rule.{place_rule}
use Rattle.committee.proofs.PositionLaws.{place_le}
use Rattle.committee.proofs.positions.member_in.Goals as goal

pub returns : goal.returns
returns c = let a = c.args in
    let e = place_rule a.set a.position c.requires.0 c.requires.1 in
    (e, subst (λ (x : ℕ). x ≤ 8) (sym e) (place_le a.set a.position))
