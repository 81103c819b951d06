use Rattle.std.proofs.Common.{◌≡◌, ◌-◌, ◌≤◌}
use Rattle.chain_committees.specs.Walks.{passed}
use Rattle.chain_committees.proofs.walk.Walk.apply_below.Given as goal

abbrev pub invariant-loop-self : goal.invariant-loop-self
invariant-loop-self l = (l.self.chain ≡ l.initial.self.chain) × (passed l.self ≤ l.fn.round - 1)

abbrev pub decreases-loop-self : goal.decreases-loop-self
decreases-loop-self l = l.self.chain.blocks - l.self.applied
