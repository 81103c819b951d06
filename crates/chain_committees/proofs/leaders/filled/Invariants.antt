use Rattle.std.proofs.Common.{◌≡◌, ◌-◌, ◌≤◌}
use Rattle.chain_committees.specs.Fill.{leader_at, fill_to}
use Rattle.chain_committees.specs.Told.{blocks_in}
use Rattle.chain_committees.specs.Walks.{passed}
use Rattle.chain_committees.proofs.leaders.filled.Given as goal

-- the rounds up to q have their leaders, and the walk is at none above them
abbrev pub invariant-loop-q : goal.invariant-loop-q
invariant-loop-q l = let c = l.walk.chain in
    let q₀ = l.initial.q in
    (c ≡ l.initial.walk.chain) × (passed l.walk ≤ l.q - c.settings.now.lookback) × (l.leaders ≡ fill_to (leader_at c.settings.now (blocks_in c)) q₀ (l.q - q₀) l.initial.leaders)
