-- How far a walk over the blocks of a chain is.
use Rattle.std.specs.Prelude.{ℕ}
use Rattle.chain_committees.specs.BlockChanges.{last_round}
use Rattle.chain_committees.specs.declared.walk.Walk.{Walk}

-- the round of the newest block that is applied, 0 for none
abbrev pub passed : Walk → ℕ
passed w = last_round w.chain.table.now w.applied
