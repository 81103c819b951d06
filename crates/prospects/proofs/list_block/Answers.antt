use Rattle.prospects.proofs.BlockLaws.{rows_fit, block_listed}
use Rattle.prospects.proofs.list_block.Goals as goal

pub put_rows-requires : goal.put_rows-requires
put_rows-requires g c = rows_fit (rw c.only-authors.ensures at c.go_down-low.ensures) c.requires

pub returns : goal.returns
returns g c = block_listed (rw c.only-authors.ensures at c.go_down-low.ensures) c.put_rows.ensures
