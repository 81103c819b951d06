use Rattle.chain_committees.proofs.ChainInTableLaws.{after_bounded}
use Rattle.chain_committees.proofs.StartLaws.{after_applied, started_applied}
use Rattle.chain_committees.proofs.walk.Walk.step.Goals as goal

pub invariant_of-self : goal.invariant_of-self
invariant_of-self c = let w = c.args.self.now in
    let s = c.fill_starts-self.ensures in
    let after = after_applied w.chain.told c.requires w.after s c.apply_block.ensures in
    record { linked = w.linked; after = after; bounded = after_bounded w.chain.words w.chain.told after; started = started_applied s }
