use Rattle.chain_committees.proofs.LinkLaws.{links-start}
use Rattle.chain_committees.proofs.changes.links.linked.Goals as goal

pub link_rows-requires : goal.link_rows-requires
link_rows-requires c = rw c.ceiling.view_is (c.requires.rows, links-start _ _ _ c.requires.places)
