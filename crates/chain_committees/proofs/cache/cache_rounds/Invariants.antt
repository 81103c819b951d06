use Rattle.std.proofs.Common.{◌≡◌, ◌-◌, ◌≤◌}
use Rattle.chain_committees.specs.Told.{blocks_in}
use Rattle.chain_committees.specs.Walks.{passed}
use Rattle.chain_committees.proofs.CacheLaws.{CachesTo}
use Rattle.chain_committees.proofs.cache.cache_rounds.Given as goal

-- the rounds below q are cached, and the walk is at none above them
abbrev pub invariant-loop-q : goal.invariant-loop-q
invariant-loop-q l = let c = l.walk.chain in
    (c ≡ l.initial.walk.chain) × (passed l.walk ≤ l.q - c.settings.now.lookback - 1) × CachesTo c.settings.now (blocks_in c) l.fn.first l.q l.cache
