use Rattle.std.proofs.Common.{refl}
use Rattle.blocks.specs.Blocks.{add_block}
use Rattle.blocks.proofs.SeenLaws.{seen_block}
use Rattle.blocks.proofs.marks.add_block.Goals as goal

pub returns : goal.returns
unfolding add_block
returns c = let m = c.mark_history.ensures in
    (rw (c.set_block.ensures, m.0, c.only-anchor.ensures) refl, seen_block _ _ _ _ _ c.set_block.ensures m.1)
