use Rattle.chain_committees.specs.Starts.{Started}
use Rattle.chain_committees.proofs.walk.fill_starts.Given as goal

abbrev pub invariant-loop-i : goal.invariant-loop-i
invariant-loop-i l = Started l.chain.settings.now l.chain.table.now l.chain.blocks l.applied l.i l.starts
